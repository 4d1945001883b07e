-- Whose turn it is among equal remainders (02, request 2).
--   first-after        the row at position i goes first after as many quarters as it stands behind whoever goes first now ..
--   first-only         .. and at none of the other quarters before everybody has gone first
--   each-first-once    over n quarters of a day in a row each of n rows goes first exactly once
--   lower-first        where position 0 goes first, turns go by position, so by the lower id
--   accepted-quarter-0, statement-quarter-0     at quarter 0 the figures are those of before: of an accepted pair, of a statement's bytes
use Prim.Native.Nat.{ℕ, ◌+◌, ◌-◌, ◌%◌, ◌<◌, ◌≤◌}
use mathlib.Core.Path.{◌≡◌, sym, ap, ◌∙◌}
use mathlib.Core.Logic.{⊎_elim}
use mathlib.Core.Bool.{Bool, true}
use mathlib.Core.List.{List}
use native.Mathlib.Nat.{mod-eq_of_lt, mod-eq-sub-mod, mod-add-mod, zero-mod}
use native.Mathlib.Omega.{arith}
use lib.ListN.{length}
use borrow.Author.Tests.{eqb-true, eq-eqb}
use Rattle.columns.specs.Sum.{count_to}
use Rattle.columns.proofs.Sum.{lt-or-le, count-some}
use Rattle.columns.proofs.Rank.{count-one}
use Rattle.files.specs.Layout.{head_at, row_count}
use Rattle.share.specs.Share.{turn}
use Rattle.share.proofs.Order.{turn-late, turn-early, turn-lt}
use Rattle.settle.specs.Settlement.{first_turn, figures}
use Rattle.files.specs.Verdict.{number_of}
use Rattle.settle.specs.Answer.{duties_in, figures_of, answer_of, buffer_after}
use Rattle.settle.proofs.Accepted.{first-is, first-inside}
use Rattle.demands.specs.Promise.{figures_at, goes_first, figures_by_lower_id}
use Rattle.demands.proofs.Demand2.{statement-figures}

-- k quarters later it is the k-th position from there, going round
first-later : (quarter n k : ℕ) → 0 < n → first_turn (quarter + k) n ≡ (first_turn quarter n + k) % n
first-later quarter n k some =
    first-is (quarter + k) n some ∙ sym (mod-add-mod quarter n k) ∙ ap (λ (x : ℕ). (x + k) % n) (sym (first-is quarter n some))

-- past the last position it goes on at the first
round-late : (n x : ℕ) → n ≤ x → x < n + n → x % n ≡ x - n
round-late n x h l = mod-eq-sub-mod h ∙ mod-eq_of_lt (omega arith)

module _ (quarter n i : ℕ) (l : i < n) where
  some : 0 < n
  some = omega arith

  abbrev first : ℕ
  first = first_turn quarter n

  inside : first < n
  inside = first-inside quarter n some

  pub first-after : first_turn (quarter + turn n first i) n ≡ i
  first-after =
      first-later quarter n (turn n first i) some
      ∙ ⊎_elim
      (λ (p : i < first).
      let t = turn-early n first i p inside in
      round-late n (first + turn n first i) (omega (arith, inside, t)) (omega (arith, inside, t)) ∙ omega (arith, inside, t))
      (λ (p : first ≤ i).
      let t : first + turn n first i ≡ i = omega (arith, turn-late n first i p l) in rw t (mod-eq_of_lt l))
      (lt-or-le i first)

  pub first-only : (k : ℕ) → k < n → first_turn (quarter + k) n ≡ i → k ≡ turn n first i
  first-only k m e =
      ⊎_elim
      (λ (p : first + k < n).
      let x : i ≡ first + k = sym e ∙ first-later quarter n k some ∙ mod-eq_of_lt p in
      omega (arith, x, turn-late n first i (omega (arith, x)) l))
      (λ (p : n ≤ first + k).
      let x : i ≡ first + k - n =
      sym e ∙ first-later quarter n k some ∙ round-late n (first + k) p (omega (arith, inside)) in
      omega (arith, x, inside, turn-early n first i (omega (arith, x, inside)) inside))
      (lt-or-le (first + k) n)

  -- who stands behind nobody is the position that goes first
  goes-is : (q : ℕ) → goes_first n q i ≡ true → first_turn q n ≡ i
  goes-is q e =
      let f = first_turn q n in
      let z : turn n f i ≡ 0 = eqb-true (turn n f i) 0 e in
      ⊎_elim (λ (p : i < f). absurd (omega (arith, z, turn-early n f i p (first-inside q n some), first-inside q n some)))
      (λ (p : f ≤ i). omega (arith, z, turn-late n f i p l)) (lt-or-le i f)

  is-goes : (q : ℕ) → first_turn q n ≡ i → goes_first n q i ≡ true
  is-goes q e = eq-eqb (turn n (first_turn q n) i) 0 (omega (arith, e, turn-late n (first_turn q n) i (omega (arith, e)) l))

  pub each-first-once : count_to n (λ k. goes_first n (quarter + k) i) ≡ 1
  each-first-once =
      let goes : ℕ → Bool = λ k. goes_first n (quarter + k) i in
      let once : (k : ℕ) → k < n → goes k ≡ true → k ≡ turn n first i = λ k m e. first-only k m (goes-is (quarter + k) e) in
      omega (
        arith,
        count-some n goes (turn n first i) (turn-lt n first i some) (is-goes (quarter + turn n first i) first-after),
        count-one n goes (λ j k l m d e. once j l d ∙ sym (once k m e)),
      )

pub lower-first : (n i : ℕ) → i < n → turn n 0 i ≡ i
lower-first n i l = omega (arith, turn-late n 0 i (omega arith) l)

first-at-0 : (n : ℕ) → first_turn 0 n ≡ 0
first-at-0 n =
    ⊎_elim (λ (some : 0 < n). first-is 0 n some ∙ zero-mod n)
    (λ (none : n ≤ 0). unfold first_turn in rw (eq-eqb n 0 (omega arith))) (lt-or-le 0 n)

pub accepted-quarter-0 : (s k : List ℕ) → (head_at s).quarter ≡ 0 → figures_of s k ≡ figures_by_lower_id s k
unfolding figures_of figures_by_lower_id
accepted-quarter-0 s k e =
    ap (λ (first : ℕ). figures (head_at s).need.0 first (duties_in s k))
    (ap (λ (q : ℕ). first_turn q (row_count s)) e ∙ first-at-0 (row_count s))

pub statement-quarter-0 : (s k out : List ℕ) → number_of (answer_of s k (length out)) ≡ 0 → (head_at s).quarter ≡ 0
    → figures_at (buffer_after s k out) ≡ figures_by_lower_id s k
statement-quarter-0 s k out h e = statement-figures s k out h ∙ accepted-quarter-0 s k e
