-- A run put into a buffer: its length, its elements, and runs put one after the other.
--   put-length            the buffer keeps its length
--   put-none              an empty run changes nothing
--   put_whole             a run as long as the buffer is what the buffer holds afterwards
--   put-put               two runs that adjoin are one run
--   set-put               a store is a run of one
--   put_step              a turn of a copy loop: one element more of the source
--   copy-none, -more, -all  a copy loop's start, turn and end
--   put-mid               a run that a lent part of the buffer is left with
--   put-inside            within the run stand its elements
--   put-before, put-after on either side of it stands what stood there
--   take_put, put-taken   the first elements up to the run's end, and the run alone, taken out again
--   drop-put              what follows the run is as it was
--   put-left, put_right   a run put within the first, or the second, of two joined lists
--   put-within            a run put within a run that was put
--   put-ahead             a run put right in front of one that was put
--   put-apart             two runs that do not meet, in either order
use mathlib.Core.Path.{◌≡◌, refl, sym, ap, ◌∙◌}
use mathlib.Core.List.{List, [], ◌∷◌, ◌++◌, append_assoc, append-nil}
use Prim.Native.Nat.{ℕ, ◌+◌, ◌-◌, ◌≤◌, ◌<◌}
use native.Mathlib.Nat.{add-zero, zero-add, add_assoc}
use native.Mathlib.Numerals.{add-one}
use native.Mathlib.Omega.{arith}
use lib.ListN.{length, get_or, take, drop, set, length-append, length-take, length-drop, take-append-drop, get_or-append}
use lib.Seq.{length-take-le, take_at, drop_at, drop-drop, set_split, get_or-take, get_or-drop, get_or-append-add, drop-length}
use lib.Seq.{take-append-add, drop-append-add, take-append-le, drop-append-le, take-take, take-suc, take_all}
use borrow.Rule.Slice.PartMut.{put_mid}
use Rattle.records.specs.Buffer.{put}

module _ {A : Type 0} where
  pub put-length : (l : List A) (k : ℕ) (vs : List A) → k + length vs ≤ length l → length (put l k vs) ≡ length l
  unfolding put
  put-length l k vs h = simp (length-append, length-take, length-drop) (omega arith)

  pub put-none : (l : List A) (k : ℕ) → put l k [] ≡ l
  unfolding put
  put-none l k = rw (add-zero k, take-append-drop k l)

  pub put_whole : (l vs : List A) → length vs ≡ length l → put l 0 vs ≡ vs
  unfolding put
  put_whole l vs e = rw (zero-add (length vs), e, drop-length l, append-nil vs)

  -- what stands up to the end of the run
  front_length : (l : List A) (k : ℕ) (vs : List A) → k ≤ length l → length (take k l ++ vs) ≡ k + length vs
  front_length l k vs h = simp (length-append, length-take) (omega arith)

  pub take_put : (l : List A) (k : ℕ) (vs : List A) → k ≤ length l → take (k + length vs) (put l k vs) ≡ take k l ++ vs
  unfolding put
  take_put l k vs h =
      rw (← append_assoc (take k l) vs (drop (k + length vs) l))
      (take_at (take k l ++ vs) (drop (k + length vs) l) (k + length vs) (front_length l k vs h))

  pub drop-put : (l : List A) (k : ℕ) (vs : List A) → k ≤ length l → drop (k + length vs) (put l k vs) ≡ drop (k + length vs) l
  unfolding put
  drop-put l k vs h =
      rw (← append_assoc (take k l) vs (drop (k + length vs) l))
      (drop_at (take k l ++ vs) (drop (k + length vs) l) (k + length vs) (front_length l k vs h))

  pub put-taken : (l : List A) (k : ℕ) (vs : List A) → k ≤ length l → take (length vs) (drop k (put l k vs)) ≡ vs
  unfolding put
  put-taken l k vs h =
      rw (drop_at (take k l) (vs ++ drop (k + length vs) l) k (length-take-le k l h))
      (take_at vs (drop (k + length vs) l) (length vs) refl)

  rest_put : (l : List A) (at : ℕ) (vs ws : List A) → at ≤ length l
      → drop (at + length vs + length ws) (put l at vs) ≡ drop (at + length (vs ++ ws)) l
  rest_put l at vs ws h =
      sym (drop-drop (length ws) (at + length vs) (put l at vs)) ∙ ap (drop (length ws)) (drop-put l at vs h)
      ∙ drop-drop (length ws) (at + length vs) l ∙ rw (length-append vs ws, add_assoc at (length vs) (length ws))

  adjoining : (l l' : List A) (at : ℕ) (vs ws : List A) → take (at + length vs) l' ≡ take at l ++ vs
      → drop (at + length vs + length ws) l' ≡ drop (at + length (vs ++ ws)) l
      → put l' (at + length vs) ws ≡ put l at (vs ++ ws)
  unfolding put
  adjoining l l' at vs ws front rest = rw (front, rest) (simp append_assoc)

  pub put-put : (l : List A) (at k : ℕ) (vs ws : List A) → k ≡ at + length vs → at ≤ length l
      → put (put l at vs) k ws ≡ put l at (vs ++ ws)
  put-put l at k vs ws e h = rw e (adjoining l (put l at vs) at vs ws (take_put l at vs h) (rest_put l at vs ws h))

  pub set-put : (l : List A) (k : ℕ) (x : A) → k < length l → set l k x ≡ put l k (x ∷ [])
  unfolding put
  set-put l k x h = rw (set_split l k x h, add-one k)

  pub put-mid : (l vs : List A) (at n : ℕ) → n ≡ length vs → put_mid at n l vs ≡ put l at vs
  unfolding put
  put-mid l vs at n e = rw (e, drop-drop (length vs) at l)

  pub put_step : (l : List A) (at : ℕ) (src : List A) (i : ℕ) (d : A) → at + length src ≤ length l → i < length src
      → set (put l at (take i src)) (at + i) (get_or src i d) ≡ put l at (take (i + 1) src)
  put_step l at src i d room h =
      let n : length (take i src) ≡ i = length-take-le i src (omega arith) in
      let keeps : length (put l at (take i src)) ≡ length l = put-length l at (take i src) (omega arith) in
      set-put (put l at (take i src)) (at + i) (get_or src i d) (omega arith)
      ∙ put-put l at (at + i) (take i src) (get_or src i d ∷ []) (omega arith) (omega arith)
      ∙ rw (add-one i, take-suc src i d h)

  -- the copy loop by its parts, as its proof asks for them: the start, a turn, the end
  pub copy-none : (l : List A) (at : ℕ) (src : List A) → l ≡ put l at (take 0 src)
  copy-none l at src = sym (put-none l at)

  pub copy_more : (l l' : List A) (at : ℕ) (src : List A) (i : ℕ) (d : A) → at + length src ≤ length l
      → l' ≡ put l at (take i src) → i < length src → set l' (at + i) (get_or src i d) ≡ put l at (take (i + 1) src)
  copy_more l l' at src i d room e h = rw e (put_step l at src i d room h)

  pub copy-all : (l l' : List A) (at : ℕ) (src : List A) (i : ℕ) → l' ≡ put l at (take i src) → length src ≤ i
      → l' ≡ put l at src
  copy-all l l' at src i e h = e ∙ ap (put l at) (take_all i src h)

  pub put-inside : (l : List A) (k : ℕ) (vs : List A) (j : ℕ) (d : A) → k ≤ length l → j < length vs
      → get_or (put l k vs) (k + j) d ≡ get_or vs j d
  unfolding put
  put-inside l k vs j d h i =
      let there : get_or (take k l ++ (vs ++ drop (k + length vs) l)) (length (take k l) + j) d ≡ get_or (vs ++ drop (k + length vs) l) j d =
      get_or-append-add (take k l) (vs ++ drop (k + length vs) l) j d in
      (rw (length-take-le k l h) at there) ∙ get_or-append vs (drop (k + length vs) l) d j i

  pub put-before : (l : List A) (k : ℕ) (vs : List A) (j : ℕ) (d : A) → k ≤ length l → j < k
      → get_or (put l k vs) j d ≡ get_or l j d
  unfolding put
  put-before l k vs j d h i =
      get_or-append (take k l) (vs ++ drop (k + length vs) l) d j (rw (length-take-le k l h) i) ∙ get_or-take k l j d i

  pub put-after : (l : List A) (k : ℕ) (vs : List A) (j : ℕ) (d : A) → k ≤ length l → k + length vs ≤ j
      → get_or (put l k vs) j d ≡ get_or l j d
  put-after l k vs j d h i =
      let n = k + length vs in
      let e : n + (j - n) ≡ j = omega arith in
      rw (← e, ← get_or-drop n (put l k vs) (j - n) d, ← get_or-drop n l (j - n) d, drop-put l k vs h)

  pub put-left : (a b : List A) (k : ℕ) (vs : List A) → k + length vs ≤ length a → put (a ++ b) k vs ≡ put a k vs ++ b
  unfolding put
  put-left a b k vs h =
      rw (take-append-le k a b (omega arith), drop-append-le (k + length vs) a b h) (simp append_assoc)

  pub put_right : (a b : List A) (n k : ℕ) (vs : List A) → length a ≡ n → put (a ++ b) (n + k) vs ≡ a ++ put b k vs
  unfolding put
  put_right a b n k vs e =
      rw (← e, take-append-add a b k, add_assoc (length a) k (length vs), drop-append-add a b (k + length vs)) (simp append_assoc)

  pub put-within : (l : List A) (k : ℕ) (vs : List A) (m : ℕ) (ws : List A) → k ≤ length l → m + length ws ≤ length vs
      → put (put l k vs) (k + m) ws ≡ put l k (put vs m ws)
  put-within l k vs m ws h i =
      ap (λ (x : List A). put x (k + m) ws) (parts vs)
      ∙ put_right (take k l) (vs ++ drop (k + length vs) l) k m ws (length-take-le k l h)
      ∙ ap (λ (x : List A). take k l ++ x) (put-left vs (drop (k + length vs) l) m ws i)
      ∙ rw (← put-length vs m ws i) (sym (parts (put vs m ws))) where
        parts : (xs : List A) → put l k xs ≡ take k l ++ (xs ++ drop (k + length xs) l)
        parts xs = unfold put in refl

  pub put-ahead : (l : List A) (k : ℕ) (vs ws : List A) → k + length vs ≤ length l
      → put (put l (k + length vs) ws) k vs ≡ put l k (vs ++ ws)
  unfolding put
  put-ahead l k vs ws h =
      let n = k + length vs in
      let front : length (take n l) ≡ n = length-take-le n l h in
      let end : n + length ws ≡ k + length (vs ++ ws) = omega (arith, length-append vs ws) in
      rw (
        take-append-le k (take n l) (ws ++ drop (n + length ws) l) (omega arith),
        take-take k n l (omega arith),
        drop_at (take n l) (ws ++ drop (n + length ws) l) n front,
        end,
      )
      (simp append_assoc)

  -- two runs that do not meet may be put in either order
  pub put-apart : (l : List A) (k m : ℕ) (vs ws : List A) → k + length vs ≤ m → m ≤ length l → put (put l k vs) m ws ≡ put (put l m ws) k vs
  put-apart l k m vs ws before inside =
      let a = take m l in
      let b = drop m l in
      let long : length a ≡ m = length-take-le m l inside in
      let here : m + 0 ≡ m = add-zero m in
      let low : (c : List A) → put (a ++ c) k vs ≡ put a k vs ++ c = λ c. put-left a c k vs (omega (arith, long)) in
      let high : (c : List A) → length c ≡ m → put (c ++ b) m ws ≡ c ++ put b 0 ws = λ c e. rw here at (put_right c b m 0 ws e) in
      ap (λ (x : List A). put (put x k vs) m ws) (sym (take-append-drop m l)) ∙ ap (λ (x : List A). put x m ws) (low b)
      ∙ high (put a k vs) (put-length a k vs (omega (arith, long)) ∙ long) ∙ sym (low (put b 0 ws))
      ∙ ap (λ (x : List A). put x k vs) (sym (high a long)) ∙ ap (λ (x : List A). put (put x m ws) k vs) (take-append-drop m l)
