-- Weights of 0 left out: the order of service among the listed positions alone serves the same ones.
--     quota-off, rest-off     who has no weight has neither quota nor remainder
--     found_listed            who stands at a place of the list
--     over-list               a sum of what only positions of weight add to, taken over the list
--     left-listed             no more is left than positions are listed
--     start_is                where turns begin in the list
--     turn-order              turns in the list stand as turns in the column
--     served-listed           by the remainders of the list the same are served
use Prim.Native.Nat.{ℕ, ◌+◌, ◌-◌, ◌*◌, ◌≤◌, ◌<◌}
use mathlib.Core.Path.{◌≡◌, ap, sym, ◌∙◌}
use mathlib.Core.Logic.{◌⊎◌, inl, inr, ⊎_elim}
use mathlib.Core.Bool.{Bool, true, false, cond}
use mathlib.Core.List.{List}
use native.Mathlib.Nat.{zero-div, zero-mod, eq-zero-or-pos}
use native.Mathlib.Omega.{arith}
use lib.Dec.{ltb}
use lib.ListN.{length}
use borrow.Author.Tests.{lt-ltb, le-ltb, ltb-false, ne_eqb}
use Rattle.columns.specs.Sum.{bit, sum_to, count_to, sum_where, whole}
use Rattle.columns.specs.Table.{at, Below}
use Rattle.columns.proofs.Sum.{lt-or-le, sum_same, sum-shorter, count-le, count-sub, count-before}
use Rattle.columns.proofs.Rank.{test-or}
use Rattle.columns.proofs.Listed.{Found, found_in, sum-listed, front-count}
use Rattle.share.specs.Share.{quota, rest, turn, before, rank, left}
use Rattle.share.specs.Steps.{weighs, entry, Listed, listed_rest, start_in, goes_before, place}
use Rattle.share.proofs.Order.{turn-late, turn-front}
use Rattle.share.proofs.Rests.{left-some, rest-none}

weightless : (ws : List ℕ) (i : ℕ) → weighs ws i ≡ false → at ws i ≡ 0
unfolding weighs
weightless ws i off = omega (arith, ltb-false 0 (at ws i) off)

pub quota-off : (a : ℕ) (ws : List ℕ) (i : ℕ) → weighs ws i ≡ false → quota a ws i ≡ 0
unfolding quota
quota-off a ws i off =
    let e : a * at ws i ≡ 0 = rw (weightless ws i off) (omega arith) in rw e (zero-div (whole ws))

pub rest-off : (a : ℕ) (ws : List ℕ) (i : ℕ) → weighs ws i ≡ false → rest a ws i ≡ 0
unfolding rest
rest-off a ws i off =
    let e : a * at ws i ≡ 0 = rw (weightless ws i off) (omega arith) in rw e (zero-mod (whole ws))

-- ---- turns

count-shorter : (k n : ℕ) (p : ℕ → Bool) → k ≤ n → count_to k p ≤ count_to n p
unfolding count_to
count-shorter k n p l = sum-shorter k n (λ i. bit (p i)) l

-- two comparisons of the same outcome
same-order : (s t u v : ℕ) → ((s < t) × (u < v)) ⊎ ((t ≤ s) × (v ≤ u)) → ltb s t ≡ ltb u v
same-order s t u v (inl h) = rw (lt-ltb s t h.0, lt-ltb u v h.1)
same-order s t u v (inr h) = rw (le-ltb s t h.0, le-ltb u v h.1)

-- of positions that pass a test, turns among themselves: j and k are how many come before x and y, and turns begin at s in place of `first`
module _ (n : ℕ) (p : ℕ → Bool) (first m s : ℕ) (inside : first ≤ n) (m-is : m ≡ count_to n p) (s-is : s ≡ count_to first p) where
  start-in : s ≤ m
  start-in = omega (arith, count-shorter first n p inside)

  place_in : (j x : ℕ) → Found n p j x → j < m
  place_in j x here = omega (arith, here.place, count-before p x n here.inside here.passes)

  early : (j x : ℕ) → Found n p j x → x < first → (turn n first x ≡ x + n - first) × (turn m s j ≡ j + m - s) × (j < s)
  early j x here l =
      let q : j < s = omega (arith, here.place, count-before p x first l here.passes) in
      (turn-front n first x l inside, turn-front m s j q start-in, q)

  late : (j x : ℕ) → Found n p j x → first ≤ x → (turn n first x ≡ x - first) × (turn m s j ≡ j - s) × (s ≤ j)
  late j x here l =
      let q : s ≤ j = omega (arith, here.place, count-shorter first x p l) in
      (turn-late n first x l here.inside, turn-late m s j q (place_in j x here), q)

  pub turn-order : (j x k y : ℕ) → Found n p j x → Found n p k y → ltb (turn n first x) (turn n first y) ≡ ltb (turn m s j) (turn m s k)
  turn-order j x k y here there =
      same-order (turn n first x) (turn n first y) (turn m s j) (turn m s k)
      (⊎_elim
      (λ (q : x < first). let e = early j x here q in
      ⊎_elim (λ (r : y < first). let f = early k y there r in
      ⊎_elim (λ o. inl (omega (arith, o), omega (arith, o, start-in))) (λ o. inr (omega (arith, o), omega (arith, o, start-in))) along)
      (λ (r : first ≤ y). let f = late k y there r in
      inr (omega (arith, there.inside), omega (arith, place_in k y there, start-in))) (lt-or-le y first))
      (λ (q : first ≤ x). let e = late j x here q in
      ⊎_elim (λ (r : y < first). let f = early k y there r in
      inl (omega (arith, here.inside), omega (arith, place_in j x here, start-in)))
      (λ (r : first ≤ y). let f = late k y there r in
      ⊎_elim (λ o. inl (omega (arith, o), omega (arith, o, start-in))) (λ o. inr (omega (arith, o), omega (arith, o, start-in))) along) (lt-or-le y first))
      (lt-or-le x first))
    where
      along : ((x < y) × (j < k)) ⊎ ((y ≤ x) × (k ≤ j))
      along =
          ⊎_elim (λ (l : x < y). inl (l, omega (arith, here.place, there.place, count-before p x y l here.passes)))
          (λ (l : y ≤ x). inr (l, omega (arith, here.place, there.place, count-shorter y x p l))) (lt-or-le x y)

-- ---- ranks

-- who stands at a place of the list
pub found_listed : (ws list : List ℕ) (m j : ℕ) → Listed ws list m → j < m → Found (length ws) (weighs ws) j (at list j)
found_listed ws list m j listed l = found_in (length ws) (weighs ws) list j listed.places (omega (arith, listed.many))

-- what follows is asked of the m positions of weight alone, each at its place, wherever they are listed: in the front of an array, or in a
-- slice of them (`Listed`)

-- a sum of what only positions of weight add to, taken over the list
pub over-list : (ws list : List ℕ) (m : ℕ) → m ≡ count_to (length ws) (weighs ws)
    → Below (length ws) (λ i. weighs ws i ≡ true → at list (entry ws i) ≡ i)
    → (g : ℕ → ℕ) → ((i : ℕ) → weighs ws i ≡ false → g i ≡ 0) → sum_to m (λ j. g (at list j)) ≡ sum_to (length ws) g
unfolding sum_where
over-list ws list m many places g quiet =
    rw many
    (sum-listed (length ws) (weighs ws) list g places
    ∙ sum_same (length ws) (λ i. cond (weighs ws i) (g i) 0) g (λ i l. each i (test-or (weighs ws i))))
  where
    each : (i : ℕ) → (weighs ws i ≡ true) ⊎ (weighs ws i ≡ false) → cond (weighs ws i) (g i) 0 ≡ g i
    each i (inl on) = rw on
    each i (inr off) = rw off (sym (quiet i off))

module _ (a : ℕ) (ws list : List ℕ) (m first : ℕ) (some : 0 < whole ws) (many : m ≡ count_to (length ws) (weighs ws))
    (places : Below (length ws) (λ i. weighs ws i ≡ true → at list (entry ws i) ≡ i)) where
  -- as many remainders are above 0 in the list as in the column
  rests-listed : count_to m (λ j. ltb 0 (listed_rest a ws list j)) ≡ count_to (length ws) (λ i. ltb 0 (rest a ws i))
  unfolding count_to listed_rest
  rests-listed =
      over-list ws list m many places (λ i. bit (ltb 0 (rest a ws i))) (λ i off. ap bit (le-ltb 0 (rest a ws i) (omega (arith, rest-off a ws i off))))

  pub left-listed : left a ws ≤ m
  left-listed = omega (arith, left-some a ws some, rests-listed, count-le m (λ j. ltb 0 (listed_rest a ws list j)))

  pub start_is : first ≤ length ws → start_in list m first ≡ count_to first (weighs ws)
  unfolding start_in count_to
  start_is inside =
      rw many
      (sum-listed (length ws) (weighs ws) list (λ i. bit (ltb i first)) places ∙ front-count (length ws) (weighs ws) first inside)

  module _ (inside : first < length ws) (rs : List ℕ) (long : length rs ≡ m) (is : (j : ℕ) → j < m → at rs j ≡ listed_rest a ws list j)
      (j i : ℕ) (here : Found (length ws) (weighs ws) j i) where
    abbrev start : ℕ
    start = start_in list m first

    place_here : j < m
    place_here = omega (arith, many, here.place, count-before (weighs ws) i (length ws) here.inside here.passes)

    rest-here : at rs j ≡ rest a ws i
    unfolding listed_rest
    rest-here = is j place_here ∙ ap (rest a ws) (ap (at list) (sym here.place) ∙ places i here.inside here.passes)

    -- what stands at place k goes before j as its position goes before i
    goes : (k : ℕ) → k < m → goes_before (at rs k) (turn m start k) (at rs j) (turn m start j) ≡ before a ws first (at list k) i
    unfolding before listed_rest
    goes k q =
        rw (
          is k q,
          rest-here,
          ← turn-order (length ws) (weighs ws) first m start (omega arith) many (start_is (omega arith)) k (at list k) j i
              (found_in (length ws) (weighs ws) list k places (omega (arith, many))) here,
        )

    place-rank : 0 < rest a ws i → place rs start j ≡ rank a ws first i
    unfolding place rank count_to before
    place-rank more =
        rw long
        (sum_same m (λ k. bit (goes_before (at rs k) (turn m start k) (at rs j) (turn m start j))) (λ k. bit (before a ws first (at list k) i))
        (λ k q. ap bit (goes k q))
        ∙ over-list ws list m many places (λ y. bit (before a ws first y i)) (λ y off. ap bit (behind y (rest-off a ws y off))))
      where
        behind : (y : ℕ) → rest a ws y ≡ 0 → before a ws first y i ≡ false
        behind y e = rw (e, le-ltb (rest a ws i) 0 (omega arith), ne_eqb 0 (rest a ws i) (omega arith))

    -- whoever has a remainder stands before one that has none
    place_none : rest a ws i ≡ 0 → left a ws ≤ place rs start j
    unfolding place
    place_none e =
        rw long
        (omega (
          arith,
          left-some a ws some,
          rests-listed,
          count-sub m (λ k. ltb 0 (listed_rest a ws list k)) (λ k. goes_before (at rs k) (turn m start k) (at rs j) (turn m start j))
              (λ k q f. rw (is k q, rest-here, e, f)),
        ))

    pub served-listed : ltb (place rs start j) (left a ws) ≡ ltb (rank a ws first i) (left a ws)
    served-listed =
        ⊎_elim
        (λ (e : rest a ws i ≡ 0).
        rw (le-ltb (place rs start j) (left a ws) (place_none e), le-ltb (rank a ws first i) (left a ws) (rest-none a ws some first i e)))
        (λ (more : 0 < rest a ws i). ap (λ (x : ℕ). ltb x (left a ws)) (place-rank more)) (eq-zero-or-pos (rest a ws i))
