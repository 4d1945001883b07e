-- Ordered lists of checks: what the first that applies says of each of them.
--   first-none, none_first           nothing refuses exactly if no check applies
--   first-earliest, earliest-first   a refusal is given exactly if it is the earliest that applies
--   first-append                     the first of two lists together is the first of the one, else the first of the other
--   append-first, append-next        so the first list decides if it refuses, else the second
--   append-passes, append-none, earliest-append      what that says of both lists; the last: the earliest is in one of them
--   more-first, -passes, -earliest   the same for one more check at the end
--   first-number                     numbers within bounds: a refusal's number is
--   numbers-append, -renumbered, -rows       such bounds, for lists made of lists
--   placed-told, placed-passes       checks at one place, by the number that code gives for them
--   renumbered-told, renumbered-passes               the same checks under one number
--   previous-none, -next, -same      what stands before a row
--   rows_none, -next, -stop, -each, -same            row by row: a walk begins, goes on, stops; what it says of each row
--   answer-no, answer-yes, refused-of, accepted-of   an answer, by what refuses
--   zero-none, none-zero, number-earliest, earliest-number
--                                    its number is 0 exactly if no check applies, else number and place are exactly the earliest's
use mathlib.Core.Path.{◌≡◌, refl, sym, ap, subst, ◌∙◌}
use mathlib.Core.Logic.{◌⊎◌, inl, inr, ⊎_elim}
use Prim.Native.Nat.{ℕ, zero, suc, ◌+◌, ◌≤◌, ◌<◌}
use mathlib.Core.Bool.{Bool, true, false, cond}
use mathlib.Core.List.{List, [], ◌∷◌, ◌++◌}
use native.Mathlib.Nat.{le_of_suc-le-suc}
use native.Mathlib.Numerals.{add-one}
use native.Mathlib.Omega.{arith}
use lib.Dec.{T, leb, ltb, ltb→lt}
use lib.ListN.{length, get_or}
use borrow.Author.Tests.{leb-true}
use Rattle.columns.specs.Test.{Check, first_of, within}
use Rattle.columns.specs.Checks.{previous, Refusal, refusal, none, first_refusal, or_else, placed, row_by_row}
use Rattle.columns.specs.Checks.{renumbered, answer_by, numbers_in, Earliest, NoneApplies, Tells}
use Rattle.columns.proofs.First.{numbered, both_left, both_right, left-true, right-true}
use Rattle.columns.proofs.Sum.{lt-or-le}

test-or : (t : Bool) → (t ≡ true) ⊎ (t ≡ false)
test-or true = inl refl
test-or false = inr refl

never : (t : Bool) → t ≡ true → t ≡ false → ⊥
never t e f = subst T (sym e ∙ f) tt

-- the list refuses nothing
abbrev pub Passes : List Refusal → Type 0
Passes rs = (first_refusal rs).applies ≡ false

-- ---- the first that applies

pub first-none : (rs : List Refusal) → NoneApplies rs → first_refusal rs ≡ none
unfolding first_refusal
first-none [] h = refl
first-none (r ∷ rs) h = rw (h 0 (omega arith)) (first-none rs (λ i l. h (suc i) (omega arith)))

-- a check in front of others that refuses nothing with them: it does not apply, and they refuse nothing
in-front : (r f : Refusal) → (cond r.applies r f).applies ≡ false → (r.applies ≡ false) × (f.applies ≡ false)
in-front r f h =
    ⊎_elim (λ (e : r.applies ≡ true). absurd (never true refl (rw e at h))) (λ (e : r.applies ≡ false). (e, rw e at h))
    (test-or r.applies)

pub cons-passes : (r : Refusal) (rs : List Refusal) → Passes (r ∷ rs) → (r.applies ≡ false) × Passes rs
unfolding first_refusal
cons-passes r rs h = in-front r (first_refusal rs) h

pub none_first : (rs : List Refusal) → Passes rs → NoneApplies rs
none_first [] h i l = absurd (omega arith)
none_first (r ∷ rs) h zero l = (cons-passes r rs h).0
none_first (r ∷ rs) h (suc i) l = none_first rs (cons-passes r rs h).1 i (le_of_suc-le-suc l)

pub passes_none : (rs : List Refusal) → Passes rs → first_refusal rs ≡ none
passes_none rs h = first-none rs (none_first rs h)

walked : (rs : List Refusal) (i : ℕ) → i < length rs → (get_or rs i none).applies ≡ true
    → ((j : ℕ) → j < i → (get_or rs j none).applies ≡ false) → first_refusal rs ≡ get_or rs i none
unfolding first_refusal
walked [] i l a h = absurd (omega arith)
walked (r ∷ rs) zero l a h = rw a
walked (r ∷ rs) (suc i) l a h = rw (h 0 (omega arith)) (walked rs i (le_of_suc-le-suc l) a (λ j m. h (suc j) (omega arith)))

pub earliest-first : (rs : List Refusal) (n p : ℕ) → Earliest rs n p → first_refusal rs ≡ refusal true n p
earliest-first rs n p e = walked rs e.at e.inside e.applies e.earlier ∙ rw (← e.applies, ← e.number, ← e.place)

later : (r : Refusal) (rs : List Refusal) (n p : ℕ) → r.applies ≡ false → Earliest rs n p → Earliest (r ∷ rs) n p
later r rs n p q e =
    record {
      at = suc e.at;
      inside = omega (arith, e.inside);
      applies = e.applies;
      number = e.number;
      place = e.place;
      earlier = go;
    } where
      go : (i : ℕ) → i < suc e.at → (get_or (r ∷ rs) i none).applies ≡ false
      go zero l = q
      go (suc i) l = e.earlier i (le_of_suc-le-suc l)

pub first-earliest : (rs : List Refusal) (n p : ℕ) → first_refusal rs ≡ refusal true n p → Earliest rs n p
unfolding first_refusal
first-earliest [] n p h = absurd (never _ refl (ap (λ (r : Refusal). r.applies) (sym h)))
first-earliest (r ∷ rs) n p h = go (first-earliest rs n p) (test-or r.applies) where
  go : (first_refusal rs ≡ refusal true n p → Earliest rs n p) → (r.applies ≡ true) ⊎ (r.applies ≡ false) → Earliest (r ∷ rs) n p
  go f (inl q) =
      let g : refusal true r.number r.place ≡ refusal true n p = rw q at h in
      record {
        at = 0;
        inside = omega arith;
        applies = q;
        number = ap (λ (x : Refusal). x.number) g;
        place = ap (λ (x : Refusal). x.place) g;
        earlier = λ i l. absurd (omega arith);
      }
  go f (inr q) = later r rs n p q (f (rw q at h))

-- ---- two lists together

or-cond : (r f g : Refusal) → cond r.applies r (or_else f g) ≡ or_else (cond r.applies r f) g
unfolding or_else
or-cond r f g = ⊎_elim (λ (e : r.applies ≡ true). rw e) (λ (e : r.applies ≡ false). rw e) (test-or r.applies)

pub first-append : (xs ys : List Refusal) → first_refusal (xs ++ ys) ≡ or_else (first_refusal xs) (first_refusal ys)
unfolding first_refusal or_else
first-append [] ys = refl
first-append (x ∷ xs) ys = rw (first-append xs ys) (or-cond x (first_refusal xs) (first_refusal ys))

module _ (xs ys : List Refusal) where
  pub append-first : (first_refusal xs).applies ≡ true → first_refusal (xs ++ ys) ≡ first_refusal xs
  unfolding or_else
  append-first e = first-append xs ys ∙ rw e

  pub append-next : Passes xs → first_refusal (xs ++ ys) ≡ first_refusal ys
  unfolding or_else
  append-next e = first-append xs ys ∙ rw e

  pub append-passes : Passes (xs ++ ys) → Passes xs × Passes ys
  append-passes h =
      ⊎_elim (λ (e : (first_refusal xs).applies ≡ true). absurd (never _ e (rw (append-first e) at h)))
      (λ (e : (first_refusal xs).applies ≡ false). (e, rw (append-next e) at h)) (test-or (first_refusal xs).applies)

  pub append-none : NoneApplies (xs ++ ys) → NoneApplies xs × NoneApplies ys
  append-none h =
      let both = append-passes (ap (λ (r : Refusal). r.applies) (first-none (xs ++ ys) h)) in
      (none_first xs both.0, none_first ys both.1)

  pub earliest-append : (n p : ℕ) → Earliest (xs ++ ys) n p → Earliest xs n p ⊎ (NoneApplies xs × Earliest ys n p)
  earliest-append n p h =
      let is = earliest-first (xs ++ ys) n p h in
      ⊎_elim (λ (e : (first_refusal xs).applies ≡ true). inl (first-earliest xs n p (sym (append-first e) ∙ is)))
      (λ (e : (first_refusal xs).applies ≡ false). inr (none_first xs e, first-earliest ys n p (sym (append-next e) ∙ is)))
      (test-or (first_refusal xs).applies)

-- one check alone, and one more at the end of a list
pub one-first : (r : Refusal) → r.applies ≡ true → first_refusal (r ∷ []) ≡ r
unfolding first_refusal
one-first r e = rw e

pub one_passes : (r : Refusal) → r.applies ≡ false → Passes (r ∷ [])
unfolding first_refusal
one_passes r e = rw e

module _ (xs : List Refusal) (r : Refusal) where
  pub more-first : Passes xs → r.applies ≡ true → first_refusal (xs ++ (r ∷ [])) ≡ r
  more-first h e = append-next xs (r ∷ []) h ∙ one-first r e

  pub more-passes : Passes xs → r.applies ≡ false → Passes (xs ++ (r ∷ []))
  more-passes h e = rw (append-next xs (r ∷ []) h) (one_passes r e)

  pub more-earliest : (n p : ℕ) → Earliest (xs ++ (r ∷ [])) n p → Earliest xs n p ⊎ (NoneApplies xs × (r ≡ refusal true n p))
  more-earliest n p h =
      ⊎_elim inl (λ (w : NoneApplies xs × Earliest (r ∷ []) n p). inr (w.0, only w.1 (test-or r.applies)))
      (earliest-append xs (r ∷ []) n p h) where
        only : Earliest (r ∷ []) n p → (r.applies ≡ true) ⊎ (r.applies ≡ false) → r ≡ refusal true n p
        only e (inl q) = sym (one-first r q) ∙ earliest-first (r ∷ []) n p e
        only e (inr q) = absurd (never _ (ap (λ (x : Refusal). x.applies) (earliest-first (r ∷ []) n p e)) (one_passes r q))

-- ---- numbers within bounds

module _ (lo hi : ℕ) where
  pub first-number : (rs : List Refusal) → numbers_in lo hi rs ≡ true → (first_refusal rs).applies ≡ true
      → (lo ≤ (first_refusal rs).number) × ((first_refusal rs).number ≤ hi)
  unfolding first_refusal
  first-number [] h e = absurd (never _ e refl)
  first-number (r ∷ rs) h e =
      go (first-number rs (right-true (within lo hi r.number) (numbers_in lo hi rs) h)) (test-or r.applies) where
        here : within lo hi r.number ≡ true
        here = left-true (within lo hi r.number) (numbers_in lo hi rs) h

        go : ((first_refusal rs).applies ≡ true → (lo ≤ (first_refusal rs).number) × ((first_refusal rs).number ≤ hi))
            → (r.applies ≡ true) ⊎ (r.applies ≡ false)
            → (lo ≤ (cond r.applies r (first_refusal rs)).number) × ((cond r.applies r (first_refusal rs)).number ≤ hi)
        go f (inl q) =
            rw q (
              leb-true lo r.number (left-true (leb lo r.number) _ here),
              leb-true r.number hi (right-true (leb lo r.number) _ here),
            )
        go f (inr q) = rw q (f (rw q at e))

  pub numbers-append : (xs ys : List Refusal) → numbers_in lo hi xs ≡ true → numbers_in lo hi ys ≡ true → numbers_in lo hi (xs ++ ys) ≡ true
  numbers-append [] ys h k = k
  numbers-append (x ∷ xs) ys h k =
      rw (left-true (within lo hi x.number) (numbers_in lo hi xs) h)
      (numbers-append xs ys (right-true (within lo hi x.number) (numbers_in lo hi xs) h) k)

  pub numbers-renumbered : (n : ℕ) (rs : List Refusal) → within lo hi n ≡ true → numbers_in lo hi (renumbered n rs) ≡ true
  unfolding renumbered
  numbers-renumbered n [] h = refl
  numbers-renumbered n (r ∷ rs) h = rw h (numbers-renumbered n rs h)

  pub numbers-rows : (n : ℕ) (f : ℕ → List Check) → ((i : ℕ) → numbers_in lo hi (placed (suc i) (f i)) ≡ true)
      → numbers_in lo hi (row_by_row n f) ≡ true
  unfolding row_by_row
  numbers-rows zero f h = refl
  numbers-rows (suc n) f h = numbers-append (row_by_row n f) (placed (suc n) (f n)) (numbers-rows n f h) (h n)

-- ---- checks at one place, and under one number

pub placed-told : (p x : ℕ) (cs : List Check) → x ≡ first_of cs → (x ≡ 0 → ⊥) → first_refusal (placed p cs) ≡ refusal true x p
unfolding first_refusal
placed-told p x [] e z = absurd (z e)
placed-told p x (c ∷ cs) e z = go (placed-told p x cs) (test-or c.applies) where
  go : (x ≡ first_of cs → (x ≡ 0 → ⊥) → first_refusal (placed p cs) ≡ refusal true x p) → (c.applies ≡ true) ⊎ (c.applies ≡ false)
      → cond c.applies (refusal c.applies c.number p) (first_refusal (placed p cs)) ≡ refusal true x p
  go f (inl q) = rw (q, rw q at e)
  go f (inr q) = rw q (f (rw q at e) z)

pub placed-passes : (p : ℕ) (cs : List Check) → T (numbered cs) → first_of cs ≡ 0 → Passes (placed p cs)
unfolding first_refusal
placed-passes p [] t h = refl
placed-passes p (c ∷ cs) t h = go (placed-passes p cs (both_right (ltb 0 c.number) (numbered cs) t)) (test-or c.applies) where
  go : (first_of cs ≡ 0 → Passes (placed p cs)) → (c.applies ≡ true) ⊎ (c.applies ≡ false)
      → (cond c.applies (refusal c.applies c.number p) (first_refusal (placed p cs))).applies ≡ false
  go f (inl q) =
      let z : c.number ≡ 0 = rw q at h in absurd (omega (arith, ltb→lt 0 c.number (both_left (ltb 0 c.number) (numbered cs) t)))
  go f (inr q) = rw q (f (rw q at h))

pub passes-placed : (p : ℕ) (cs : List Check) → Passes (placed p cs) → first_of cs ≡ 0
passes-placed p [] h = refl
passes-placed p (c ∷ cs) h =
    let both = cons-passes (refusal c.applies c.number p) (placed p cs) h in
    rw both.0 (passes-placed p cs both.1)

renumbered-first : (n : ℕ) (rs : List Refusal)
    → first_refusal (renumbered n rs) ≡ cond (first_refusal rs).applies (refusal true n (first_refusal rs).place) none
unfolding first_refusal renumbered
renumbered-first n [] = refl
renumbered-first n (r ∷ rs) = rw (renumbered-first n rs) (go (test-or r.applies)) where
  go : (r.applies ≡ true) ⊎ (r.applies ≡ false)
      → cond r.applies (refusal r.applies n r.place) (cond (first_refusal rs).applies (refusal true n (first_refusal rs).place) none)
      ≡ cond (cond r.applies r (first_refusal rs)).applies (refusal true n (cond r.applies r (first_refusal rs)).place) none
  go (inl q) = rw q
  go (inr q) = rw q

pub renumbered-told : (n a p : ℕ) (rs : List Refusal) → first_refusal rs ≡ refusal true a p
    → first_refusal (renumbered n rs) ≡ refusal true n p
renumbered-told n a p rs e = renumbered-first n rs ∙ rw e

pub renumbered-passes : (n : ℕ) (rs : List Refusal) → Passes rs → Passes (renumbered n rs)
renumbered-passes n rs e = rw (renumbered-first n rs, e)

pub passes-renumbered : (n : ℕ) (rs : List Refusal) → Passes (renumbered n rs) → Passes rs
passes-renumbered n rs h =
    ⊎_elim (λ (e : (first_refusal rs).applies ≡ true). absurd (never _ refl (rw (renumbered-first n rs, e) at h)))
    (λ (e : (first_refusal rs).applies ≡ false). e) (test-or (first_refusal rs).applies)

-- ---- row by row

pub previous-none : (f : ℕ → ℕ) → previous f 0 ≡ 0
unfolding previous
previous-none f = refl

pub previous-next : (f : ℕ → ℕ) (i : ℕ) → previous f (i + 1) ≡ f i
unfolding previous
previous-next f i = rw (add-one i)

pub previous-same : (f g : ℕ → ℕ) (i : ℕ) → ((j : ℕ) → j < i → f j ≡ g j) → previous f i ≡ previous g i
unfolding previous
previous-same f g zero h = refl
previous-same f g (suc i) h = h i (omega arith)

pub rows_none : (f : ℕ → List Check) → Passes (row_by_row 0 f)
unfolding row_by_row first_refusal
rows_none f = refl

rows-one : (f : ℕ → List Check) (i : ℕ) → row_by_row (i + 1) f ≡ row_by_row i f ++ placed (i + 1) (f i)
unfolding row_by_row
rows-one f i = rw (add-one i)

pub rows_next : (f : ℕ → List Check) (i : ℕ) → T (numbered (f i)) → Passes (row_by_row i f) → first_of (f i) ≡ 0 → Passes (row_by_row (i + 1) f)
rows_next f i t h e =
    rw (rows-one f i, append-next (row_by_row i f) (placed (i + 1) (f i)) h) (placed-passes (i + 1) (f i) t e)

pub rows-stop : (f : ℕ → List Check) (n i x : ℕ) → i < n → Passes (row_by_row i f) → x ≡ first_of (f i) → (x ≡ 0 → ⊥)
    → first_refusal (row_by_row n f) ≡ refusal true x (i + 1)
unfolding row_by_row
rows-stop f zero i x l h e z = absurd (omega arith)
rows-stop f (suc n) i x l h e z = go (rows-stop f n i x) (lt-or-le i n) where
  go : (i < n → Passes (row_by_row i f) → x ≡ first_of (f i) → (x ≡ 0 → ⊥) → first_refusal (row_by_row n f) ≡ refusal true x (i + 1))
      → (i < n) ⊎ (n ≤ i) → first_refusal (row_by_row n f ++ placed (suc n) (f n)) ≡ refusal true x (i + 1)
  go s (inl m) =
      let is = s m h e z in
      append-first (row_by_row n f) (placed (suc n) (f n)) (ap (λ (r : Refusal). r.applies) is) ∙ is
  go s (inr m) =
      let q : n ≡ i = omega arith in
      rw (q, append-next (row_by_row i f) (placed (suc i) (f i)) h, add-one i) (placed-told (suc i) x (f i) e z)

pub rows-each : (f : ℕ → List Check) (n i : ℕ) → Passes (row_by_row n f) → i < n → first_of (f i) ≡ 0
unfolding row_by_row
rows-each f zero i h l = absurd (omega arith)
rows-each f (suc n) i h l =
    let both = append-passes (row_by_row n f) (placed (suc n) (f n)) h in
    ⊎_elim (λ (m : i < n). rows-each f n i both.0 m)
    (λ (m : n ≤ i). let q : i ≡ n = omega arith in rw q (passes-placed (suc n) (f n) both.1))
    (lt-or-le i n)

-- checks at one place answer alike if they give the same number
placed_same : (p : ℕ) (cs ds : List Check) → T (numbered cs) → T (numbered ds) → first_of cs ≡ first_of ds
    → first_refusal (placed p cs) ≡ first_refusal (placed p ds)
placed_same p cs ds s t e =
    ⊎_elim
    (λ (z : first_of cs ≡ 0).
    passes_none (placed p cs) (placed-passes p cs s z) ∙ sym (passes_none (placed p ds) (placed-passes p ds t (sym e ∙ z))))
    (λ (up : 0 < first_of cs). placed-told p _ cs refl (λ z. omega arith) ∙ sym (placed-told p _ ds e (λ z. omega arith)))
    (zero_or (first_of cs))
  where
    zero_or : (n : ℕ) → (n ≡ 0) ⊎ (0 < n)
    zero_or zero = inl refl
    zero_or (suc n) = inr (omega arith)

pub rows_same : (f g : ℕ → List Check) → ((i : ℕ) → T (numbered (f i))) → ((i : ℕ) → T (numbered (g i))) → (n : ℕ)
    → ((i : ℕ) → i < n → first_of (f i) ≡ first_of (g i)) → first_refusal (row_by_row n f) ≡ first_refusal (row_by_row n g)
unfolding row_by_row
rows_same f g s t zero h = refl
rows_same f g s t (suc n) h =
    first-append (row_by_row n f) (placed (suc n) (f n))
    ∙ rw (rows_same f g s t n (λ i l. h i (omega arith)), placed_same (suc n) (f n) (g n) (s n) (t n) (h n (omega arith)))
    (sym (first-append (row_by_row n g) (placed (suc n) (g n))))

-- ---- an answer, by what refuses

module _ {A : Type 0} (refuse : ℕ → ℕ → A) (otherwise : A) where
  pub answer-no : (f : Refusal) (a p : ℕ) → f ≡ refusal true a p → answer_by refuse otherwise f ≡ refuse a p
  answer-no f a p e = rw e

  pub answer-yes : (f : Refusal) → f.applies ≡ false → answer_by refuse otherwise f ≡ otherwise
  answer-yes f e = rw e

  -- an answer that is no refusal is the one given
  pub accepted-of : (f : Refusal) (x : A) → ((a p : ℕ) → refuse a p ≡ x → ⊥) → answer_by refuse otherwise f ≡ x
      → (f.applies ≡ false) × (otherwise ≡ x)
  accepted-of f x other h =
      ⊎_elim (λ (e : f.applies ≡ true). absurd (other _ _ (rw e at h))) (λ (e : f.applies ≡ false). (e, rw e at h)) (test-or f.applies)

  module _ (number value : A → ℕ) (t : Tells refuse otherwise number value) where
    pub refused-of : (f : Refusal) (a p : ℕ) → answer_by refuse otherwise f ≡ refuse a p → f ≡ refusal true a p
    refused-of f a p h = go (test-or f.applies) where
      go : (f.applies ≡ true) ⊎ (f.applies ≡ false) → f ≡ refusal true a p
      go (inl e) =
          let same : refuse f.number f.place ≡ refuse a p = rw e at h in
          let n : f.number ≡ a = sym (t.numbers f.number f.place) ∙ ap number same ∙ t.numbers a p in
          let v : f.place ≡ p = sym (t.places f.number f.place) ∙ ap value same ∙ t.places a p in
          rw (← e, ← n, ← v)
      go (inr e) = absurd (t.differs a p (sym (rw e at h)))

    module _ (rs : List Refusal) (hi : ℕ) (bound : numbers_in 1 hi rs ≡ true) where
      pub zero-none : number (answer_by refuse otherwise (first_refusal rs)) ≡ 0 → NoneApplies rs
      zero-none h = go (test-or (first_refusal rs).applies) where
        go : ((first_refusal rs).applies ≡ true) ⊎ ((first_refusal rs).applies ≡ false) → NoneApplies rs
        go (inl e) =
            let z : (first_refusal rs).number ≡ 0 = sym (t.numbers _ _) ∙ (rw e at h) in
            absurd (omega (arith, (first-number 1 hi rs bound e).0))
        go (inr e) = none_first rs e

      pub none-zero : NoneApplies rs → number (answer_by refuse otherwise (first_refusal rs)) ≡ 0
      none-zero h = rw (first-none rs h) t.given

      pub number-earliest : (a p : ℕ) → (a ≡ 0 → ⊥) → number (answer_by refuse otherwise (first_refusal rs)) ≡ a
          → value (answer_by refuse otherwise (first_refusal rs)) ≡ p → Earliest rs a p
      number-earliest a p z h v = go (test-or (first_refusal rs).applies) where
        go : ((first_refusal rs).applies ≡ true) ⊎ ((first_refusal rs).applies ≡ false) → Earliest rs a p
        go (inl e) =
            let n : (first_refusal rs).number ≡ a = sym (t.numbers _ _) ∙ (rw e at h) in
            let q : (first_refusal rs).place ≡ p = sym (t.places _ _) ∙ (rw e at v) in
            first-earliest rs a p (rw (← e, ← n, ← q))
        go (inr e) = absurd (z (sym (rw e at h) ∙ t.given))

      pub earliest-number : (a p : ℕ) → Earliest rs a p
          → (number (answer_by refuse otherwise (first_refusal rs)) ≡ a) × (value (answer_by refuse otherwise (first_refusal rs)) ≡ p)
      earliest-number a p e = rw (earliest-first rs a p e) (t.numbers a p, t.places a p)

      -- a refusal's number is from 1 on, up to the largest of the list
      pub refused-number : (a p : ℕ) → Earliest rs a p → (1 ≤ a) × (a ≤ hi)
      refused-number a p e =
          let is = earliest-first rs a p e in
          rw is at (first-number 1 hi rs bound (ap (λ (r : Refusal). r.applies) is))
