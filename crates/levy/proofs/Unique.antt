-- The capped payers are those that closed, and no other set has their property (specs/Capped.antt).
--     caps-within      the caps of a set with the property are at most the total, whoever is outside
--     closers-left, closers-beside     what those that closed leave: the last round's money and weight
--     final-capped     the payers that closed have the property
--     capped_same      two sets with the property have the same payers
--     capped-unique    a set with the property is the set of those that closed
-- Two sets are compared by their rates; rounds play no part in it.
use Prim.Native.Nat.{ℕ, ◌+◌, ◌-◌, ◌*◌, ◌≤◌, ◌<◌}
use mathlib.Core.Path.{◌≡◌, refl, ap, sym, ◌∙◌, subst}
use mathlib.Core.Logic.{⊎_elim}
use mathlib.Core.Bool.{Bool, true, false, cond, ◌&&◌, not}
use mathlib.Core.List.{List}
use native.Mathlib.Nat.{eq-zero-or-pos, mul-le-mul_right, le_of_mul-le-mul_right}
use native.Mathlib.Omega.{arith}
use lib.Dec.{T, ltb}
use lib.ListN.{length}
use borrow.Author.Tests.{lt-ltb, ltb-true, eqb-true, not-true, not-false}
use Rattle.columns.specs.Sum.{count_to, sum_where}
use Rattle.columns.specs.Table.{at}
use Rattle.columns.proofs.First.{left-true, right-true}
use Rattle.columns.proofs.Sum.{lt-or-le, sum_same, count-some}
use Rattle.columns.proofs.Mask.{where-parts, where-zero, where-term, where-cross, where-cross-lt}
use Rattle.columns.proofs.Rank.{test-or}
use Rattle.levy.specs.Rounds.{Standing, final}
use Rattle.levy.specs.Capped.{has_closed, inside, outside, caps_inside, left_by, weights_beside, Capped}
use Rattle.levy.proofs.Step.{not_closed, inside-weight, closed-up, sound-caps, final-sound}
use Rattle.levy.proofs.Rate.{capped-owe, open-owe}

and-true : (s t : Bool) → s ≡ true → t ≡ true → s && t ≡ true
and-true s t e f = rw (e, f)

-- a payer of weight w, in the set or beside it
in-set : (w : ℕ) (t : Bool) → 0 < w → t ≡ true → ltb 0 w && t ≡ true
in-set w t some e = and-true (ltb 0 w) t (lt-ltb 0 w some) e

beside : (w : ℕ) (t : Bool) → 0 < w → t ≡ false → ltb 0 w && not t ≡ true
beside w t some e = and-true (ltb 0 w) (not t) (lt-ltb 0 w some) (ap not e)

in-set-is : (w : ℕ) (t : Bool) → ltb 0 w && t ≡ true → t ≡ true
in-set-is w t e = right-true (ltb 0 w) t e

beside-is : (w : ℕ) (t : Bool) → ltb 0 w && not t ≡ true → t ≡ false
beside-is w t e = not-true t (right-true (ltb 0 w) (not t) e)

-- no weight beside the set: nobody is beside it
beside_none : (ws : List ℕ) (p : ℕ → Bool) → weights_beside ws p ≡ 0 → (i : ℕ) → outside ws p i ≡ false
unfolding weights_beside
beside_none ws p z i =
    ⊎_elim
    (λ (o : outside ws p i ≡ true).
    let some : 0 < at ws i = ltb-true 0 (at ws i) (left-true (ltb 0 (at ws i)) (not (p i)) o) in
    absurd (omega (arith, where-term (length ws) (outside ws p) (at ws) i (inside-weight ws i some) o)))
    (λ e. e) (test-or (outside ws p i))

-- a larger set: what it has more, as numbers
more : (ℕ → Bool) → (ℕ → Bool) → List ℕ → ℕ → Bool
more p q ws i = ltb 0 (at ws i) && (not (p i) && q i)

grown : (t p q : Bool) (x : ℕ) → (t && p ≡ true → q ≡ true) → cond (t && q) x 0 ≡ cond (t && p) x 0 + cond (t && (not p && q)) x 0
grown false p q x h = omega arith
grown true true q x h = rw (h refl) (omega arith)
grown true false q x h = omega arith

shrunk : (t p q : Bool) (x : ℕ) → (t && p ≡ true → q ≡ true) → cond (t && not p) x 0 ≡ cond (t && not q) x 0 + cond (t && (not p && q)) x 0
shrunk false p q x h = omega arith
shrunk true true q x h = rw (h refl) (omega arith)
shrunk true false true x h = omega arith
shrunk true false false x h = omega arith

-- k more with caps A and weights B: the smaller set's rate says that they owe less, the larger set's that they owe enough
clash : (R₀ W₀ R W A B k : ℕ) → R₀ ≡ R + A → W₀ ≡ W + B → R₀ * B + k ≤ W₀ * A → W * A ≤ R * B → k ≡ 0
clash R₀ W₀ R W A B k eR eW less enough = omega (arith, rw (eR, eW) at less)

module _ (total : ℕ) (ws cs : List ℕ) where
  -- with weight beside it a rate of 0 reaches only caps of 0
  pub caps-within : (p : ℕ → Bool) → Capped total ws cs p → caps_inside ws cs p ≤ total
  unfolding left_by
  caps-within p h =
      ⊎_elim
      (λ (z : weights_beside ws p ≡ 0). h.all (beside_none ws p z))
      (λ (some : 0 < weights_beside ws p).
      ⊎_elim
      (λ (over : total < caps_inside ws cs p). absurd (omega (arith, zero-caps some over)))
      (λ (fits : caps_inside ws cs p ≤ total). fits) (lt-or-le total (caps_inside ws cs p)))
      (eq-zero-or-pos (weights_beside ws p))
    where
      zero-caps : 0 < weights_beside ws p → total < caps_inside ws cs p → caps_inside ws cs p ≡ 0
      zero-caps some over =
          unfold caps_inside in
          where-zero (length ws) (inside ws p) (at cs)
          (λ i l e.
          let z : total - caps_inside ws cs p ≡ 0 = omega arith in
          let low : at cs i * weights_beside ws p ≤ 0 * at ws i = rw z at (h.enough i e) in
          let c : at cs i ≤ 0 = le_of_mul-le-mul_right {k = weights_beside ws p} (omega arith) some in
          omega arith)

  -- of two sets with the property, neither is larger
  module _ (p q : ℕ → Bool) (hp : Capped total ws cs p) (hq : Capped total ws cs q) (sub : (i : ℕ) → inside ws p i ≡ true → q i ≡ true) where
    more-caps : caps_inside ws cs q ≡ caps_inside ws cs p + sum_where (length ws) (more p q ws) (at cs)
    unfolding caps_inside more
    more-caps =
        where-parts (length ws) (inside ws q) (inside ws p) (more p q ws) (at cs)
        (λ i l. grown (ltb 0 (at ws i)) (p i) (q i) (at cs i) (sub i))

    more-weights : weights_beside ws p ≡ weights_beside ws q + sum_where (length ws) (more p q ws) (at ws)
    unfolding weights_beside more
    more-weights =
        where-parts (length ws) (outside ws p) (outside ws q) (more p q ws) (at ws)
        (λ i l. shrunk (ltb 0 (at ws i)) (p i) (q i) (at ws i) (sub i))

    more-less : (i : ℕ) → more p q ws i ≡ true → left_by total ws cs p * at ws i < weights_beside ws p * at cs i
    unfolding more
    more-less i e =
        let t : ltb 0 (at ws i) ≡ true = left-true (ltb 0 (at ws i)) (not (p i) && q i) e in
        let o : not (p i) ≡ true = left-true (not (p i)) (q i) (right-true (ltb 0 (at ws i)) (not (p i) && q i) e) in
        omega (arith, hp.less i (and-true (ltb 0 (at ws i)) (not (p i)) t o))

    more-enough : (i : ℕ) → more p q ws i ≡ true → weights_beside ws q * at cs i ≤ left_by total ws cs q * at ws i
    unfolding more
    more-enough i e =
        let t : ltb 0 (at ws i) ≡ true = left-true (ltb 0 (at ws i)) (not (p i) && q i) e in
        let o : q i ≡ true = right-true (not (p i)) (q i) (right-true (ltb 0 (at ws i)) (not (p i) && q i) e) in
        omega (arith, hq.enough i (and-true (ltb 0 (at ws i)) (q i) t o))

    left-more : left_by total ws cs p ≡ left_by total ws cs q + sum_where (length ws) (more p q ws) (at cs)
    unfolding left_by
    left-more = omega (arith, more-caps, caps-within q hq)

    none_more : count_to (length ws) (more p q ws) ≡ 0
    none_more =
        clash (left_by total ws cs p) (weights_beside ws p) (left_by total ws cs q) (weights_beside ws q)
        (sum_where (length ws) (more p q ws) (at cs)) (sum_where (length ws) (more p q ws) (at ws)) (count_to (length ws) (more p q ws))
        left-more more-weights
        (where-cross-lt (length ws) (more p q ws) (left_by total ws cs p) (weights_beside ws p) (at ws) (at cs) (λ i l. more-less i))
        (where-cross (length ws) (more p q ws) (weights_beside ws q) (left_by total ws cs q) (at cs) (at ws) (λ i l. more-enough i))

    same-payers : (i : ℕ) → 0 < at ws i → p i ≡ q i
    same-payers i some =
        ⊎_elim (λ (e : p i ≡ true). e ∙ sym (sub i (in-set (at ws i) (p i) some e)))
        (λ (e : p i ≡ false). ⊎_elim
        (λ (f : q i ≡ true). absurd (omega (arith, none_more, count-some (length ws) (more p q ws) i (inside-weight ws i some) (is-more e f))))
        (λ (f : q i ≡ false). e ∙ sym f) (test-or (q i)))
        (test-or (p i))
      where
        is-more : p i ≡ false → q i ≡ true → more p q ws i ≡ true
        is-more e f = unfold more in rw (lt-ltb 0 (at ws i) some, e, f)

  -- the set with the lower rate is in the other
  rate-inside : (p q : ℕ → Bool) → Capped total ws cs p → Capped total ws cs q → 0 < weights_beside ws p
      → left_by total ws cs p * weights_beside ws q ≤ left_by total ws cs q * weights_beside ws p → (i : ℕ) → inside ws p i ≡ true → q i ≡ true
  rate-inside p q hp hq some rate i e =
      ⊎_elim (λ (f : q i ≡ true). f)
      (λ (f : q i ≡ false).
      let up : 0 < at ws i = ltb-true 0 (at ws i) (left-true (ltb 0 (at ws i)) (p i) e) in
      absurd (omega (
        arith,
        mul-le-mul_right (weights_beside ws q) (hp.enough i e),
        mul-le-mul_right (at ws i) rate,
        mul-le-mul_right (weights_beside ws p) (hq.less i (beside (at ws i) (q i) up f)),
      )))
      (test-or (q i))

  -- a set with nobody beside it has everybody
  everybody : (p : ℕ → Bool) → weights_beside ws p ≡ 0 → (i : ℕ) → 0 < at ws i → p i ≡ true
  everybody p z i some =
      ⊎_elim (λ (e : p i ≡ true). e)
      (λ (e : p i ≡ false). absurd (subst T (sym (beside (at ws i) (p i) some e) ∙ beside_none ws p z i) tt)) (test-or (p i))

  pub capped_same : (p q : ℕ → Bool) → Capped total ws cs p → Capped total ws cs q → (i : ℕ) → 0 < at ws i → p i ≡ q i
  capped_same p q hp hq i some =
      ⊎_elim
      (λ (z : weights_beside ws p ≡ 0). sym (same-payers q p hq hp (λ k e. everybody p z k (payer k (q k) e)) i some))
      (λ (u : 0 < weights_beside ws p). ⊎_elim
      (λ (z : weights_beside ws q ≡ 0). same-payers p q hp hq (λ k e. everybody q z k (payer k (p k) e)) i some)
      (λ (v : 0 < weights_beside ws q). ⊎_elim
      (λ (m : left_by total ws cs p * weights_beside ws q < left_by total ws cs q * weights_beside ws p).
      same-payers p q hp hq (rate-inside p q hp hq u (omega arith)) i some)
      (λ (m : left_by total ws cs q * weights_beside ws p ≤ left_by total ws cs p * weights_beside ws q).
      sym (same-payers q p hq hp (rate-inside q p hq hp v m) i some))
      (lt-or-le (left_by total ws cs p * weights_beside ws q) (left_by total ws cs q * weights_beside ws p)))
      (eq-zero-or-pos (weights_beside ws q)))
      (eq-zero-or-pos (weights_beside ws p))
    where
      payer : (k : ℕ) (t : Bool) → ltb 0 (at ws k) && t ≡ true → 0 < at ws k
      payer k t e = ltb-true 0 (at ws k) (left-true (ltb 0 (at ws k)) t e)

  -- the payers that have closed in the end, with money and weight as their set leaves them
  abbrev end : Standing
  end = final total ws cs

  abbrev closers : ℕ → Bool
  closers = has_closed end.marks

  pub closers-left : left_by total ws cs closers ≡ end.money
  unfolding left_by
  closers-left = omega (arith, sound-caps total ws cs end (final-sound total ws cs))

  pub closers-beside : weights_beside ws closers ≡ end.weight
  unfolding weights_beside sum_where
  closers-beside =
      sum_same (length ws) (λ i. cond (outside ws closers i) (at ws i) 0) (λ i. cond (not_closed end.marks i) (at ws i) 0)
      (λ i l. ⊎_elim (λ (z : at ws i ≡ 0). rw z (none (not_closed end.marks i)))
      (λ (some : 0 < at ws i). rw (lt-ltb 0 (at ws i) some) (twice (not_closed end.marks i) (at ws i))) (eq-zero-or-pos (at ws i)))
      ∙ sym (final-sound total ws cs).weight_is
    where
      none : (t : Bool) → ◌≡◌ {A = ℕ} (cond (ltb 0 0 && not (not t)) 0 0) (cond t 0 0)
      none true = refl
      none false = refl

      twice : (t : Bool) (w : ℕ) → cond (not (not t)) w 0 ≡ cond t w 0
      twice true w = refl
      twice false w = refl

  -- who is beside the closers is open
  beside-open : (i : ℕ) → outside ws closers i ≡ true → at end.marks i ≡ 0
  beside-open i e = eqb-true (at end.marks i) 0 (not-false (not_closed end.marks i) (beside-is (at ws i) (closers i) e))

  pub final-capped : Capped total ws cs (has_closed (final total ws cs).marks)
  final-capped =
      record {
        less = λ i e. rw (closers-left, closers-beside)
            (open-owe total ws cs i (beside-open i e) (ltb-true 0 (at ws i) (left-true (ltb 0 (at ws i)) (not (closers i)) e)));
        enough = λ i e. rw (closers-left, closers-beside) (capped-owe total ws cs i (closed-up end.marks i (in-set-is (at ws i) (closers i) e)));
        all = λ none. omega (arith, sound-caps total ws cs end (final-sound total ws cs));
      }

  pub capped-unique : (p : ℕ → Bool) → Capped total ws cs p → (i : ℕ) → 0 < at ws i → p i ≡ has_closed (final total ws cs).marks i
  capped-unique p h = capped_same p closers h final-capped
