-- Tier by tier: where no band of tier 2 is bid below a band of tier 1 (`Apart`), the calls of both tiers are those of each by itself, the
-- second with what the first leaves of the need.
--     calls-one, calls-two     the calls of each tier
--     uncovered-tiers          the need beyond all bands
--     tier-by-tier             so two calls of `call_tier`, the second with the answer of the first, leave what the definition says
use Prim.Native.Nat.{ℕ, ◌+◌, ◌-◌, ◌*◌, ◌≤◌, ◌<◌, min}
use mathlib.Core.Path.{◌≡◌, ap, sym, ◌∙◌}
use mathlib.Core.Logic.{⊎_elim}
use mathlib.Core.Bool.{Bool, cond}
use mathlib.Core.List.{List}
use native.Mathlib.Nat.{eq-zero-or-pos}
use native.Mathlib.Omega.{arith}
use lib.Dec.{ltb, eqb}
use borrow.Author.Tests.{lt-ltb, le-ltb, eq-eqb, ne_eqb, eqb-true, eqb-false}
use Rattle.columns.specs.Sum.{sum_to, whole}
use Rattle.columns.specs.Table.{at, table}
use Rattle.columns.proofs.Rank.{test-or}
use Rattle.columns.proofs.Sum.{lt-or-le, sum_same, sum-zero}
use Rattle.columns.proofs.Table.{table_same}
use Rattle.share.specs.Share.{share}
use Rattle.merit.specs.Band.{Tier, one, two, Bands, widths, bids, rows, order_of, order_at, Apart}
use Rattle.merit.specs.Call.{cheaper_in, cheaper, group, due, called, calls, uncovered}
use Rattle.merit.specs.OneTier.{under, equal, below, group_in, due_in, called_in, tier_calls}
use Rattle.merit.specs.Ready.{TierCalled, Called}
use Rattle.merit.proofs.Keyed.{cond-le}
use Rattle.merit.proofs.Groups.{rows_of, in_all}
use Rattle.merit.proofs.Laws as both
use Rattle.merit.proofs.OneTier as alone

-- within a tier, orders compare as bids do
order_lt : (t : Tier) (x y : ℕ) → ltb (order_of t x) (order_of t y) ≡ ltb x y
order_lt one x y =
    ⊎_elim (λ (l : x < y). lt-ltb (x * 2) (y * 2) (omega arith) ∙ sym (lt-ltb x y l))
    (λ (l : y ≤ x). le-ltb (x * 2) (y * 2) (omega arith) ∙ sym (le-ltb x y l)) (lt-or-le x y)
order_lt two x y =
    ⊎_elim (λ (l : x < y). lt-ltb (x * 2 + 1) (y * 2 + 1) (omega arith) ∙ sym (lt-ltb x y l))
    (λ (l : y ≤ x). le-ltb (x * 2 + 1) (y * 2 + 1) (omega arith) ∙ sym (le-ltb x y l)) (lt-or-le x y)

order-eq : (t : Tier) (x y : ℕ) → eqb (order_of t x) (order_of t y) ≡ eqb x y
order-eq t x y =
    ⊎_elim (λ e. eq-eqb (order_of t x) (order_of t y) (ap (order_of t) (eqb-true x y e)) ∙ sym e)
    (λ e. ne_eqb (order_of t x) (order_of t y) (differ t (eqb-false x y e)) ∙ sym e) (test-or (eqb x y))
  where
    differ : (t : Tier) → (x ≡ y → ⊥) → order_of t x ≡ order_of t y → ⊥
    differ one h e = h (omega arith)
    differ two h e = h (omega arith)

-- what a tier has to meet of the need: tier 2 what tier 1 leaves
abbrev left_for : ℕ → Bands → Tier → ℕ
left_for need b one = need
left_for need b two = need - whole b.widths1

-- what is left and who shares it decide what a band gets
share-same : (a c : ℕ) (g h : List ℕ) (first i : ℕ) → a ≡ c → g ≡ h
    → share (min a (whole g)) g first i ≡ share (min c (whole h)) h first i
share-same a c g h first i e f = rw (e, f)

module _ (b : Bands) (apart : Apart b) where
  group-own : (t : Tier) (i : ℕ) → group b t (order_at b t i) ≡ group_in (widths b t) (bids b t) (at (bids b t) i)
  unfolding group group_in equal
  group-own t i =
      let own : ℕ → ℕ = equal (widths b t) (bids b t) (at (bids b t) i) in
      table_same (rows b) (λ j. cond (eqb (order_at b t j) (order_at b t i)) (at (widths b t) j) 0) own
      (λ j l. ap (λ (o : Bool). cond o (at (widths b t) j) 0) (order-eq t (at (bids b t) j) (at (bids b t) i)))
      ∙ ap (λ (n : ℕ). table n own) (sym (rows_of b apart.level t))

  cheaper-own : (t : Tier) (i : ℕ) → cheaper_in b t (order_at b t i) ≡ below (widths b t) (bids b t) (at (bids b t) i)
  unfolding cheaper_in below under
  cheaper-own t i =
      let own : ℕ → ℕ = under (widths b t) (bids b t) (at (bids b t) i) in
      sum_same (rows b) (λ j. cond (ltb (order_at b t j) (order_at b t i)) (at (widths b t) j) 0) own
      (λ j l. ap (λ (o : Bool). cond o (at (widths b t) j) 0) (order_lt t (at (bids b t) j) (at (bids b t) i)))
      ∙ ap (λ (n : ℕ). sum_to n own) (sym (rows_of b apart.level t))

  -- no tier 2 band is cheaper than a tier 1 band that has a width
  none_of_two : (i : ℕ) → 0 < at b.widths1 i → cheaper_in b two (order_at b one i) ≡ 0
  unfolding cheaper_in
  none_of_two i p = sum-zero (rows b) (λ j. cond (ltb (order_at b two j) (order_at b one i)) (at (widths b two) j) 0) each
    where
      each : (j : ℕ) → j < rows b → cond (ltb (order_at b two j) (order_at b one i)) (at (widths b two) j) 0 ≡ 0
      each j l =
          ⊎_elim (λ (z : at b.widths2 j ≡ 0). omega (arith, cond-le (ltb (order_at b two j) (order_at b one i)) (at b.widths2 j)))
          (λ (q : 0 < at b.widths2 j). rw (le-ltb (order_at b two j) (order_at b one i) (omega (arith, apart.rising i j p q))))
          (eq-zero-or-pos (at b.widths2 j))

  -- all of tier 1 is cheaper than a tier 2 band that has a width
  all-of-one : (i : ℕ) → 0 < at b.widths2 i → cheaper_in b one (order_at b two i) ≡ whole b.widths1
  all-of-one i q =
      in_all b apart.level one (order_at b two i)
      (λ j l m. ⊎_elim (λ (z : at b.widths1 j ≡ 0). z) (λ (p : 0 < at b.widths1 j). absurd (omega (arith, apart.rising j i p q)))
      (eq-zero-or-pos (at b.widths1 j)))

  -- what bands of both tiers leave for a band with a width is what bands of its own tier leave of the tier's need
  left-own : (need : ℕ) (t : Tier) (i : ℕ) → 0 < at (widths b t) i
      → need - cheaper b (order_at b t i) ≡ left_for need b t - below (widths b t) (bids b t) (at (bids b t) i)
  unfolding cheaper
  left-own need one i p = omega (arith, cheaper-own one i, none_of_two i p)
  left-own need two i p = omega (arith, cheaper-own two i, all-of-one i p)

  module _ (need first : ℕ) where
    called-own : (t : Tier) (i : ℕ) → called need b first t i ≡ called_in (left_for need b t) (widths b t) (bids b t) first i
    called-own t i =
        ⊎_elim
        (λ (z : at (widths b t) i ≡ 0).
        omega (arith, both.called-le need b first t i, alone.called-le (left_for need b t) (widths b t) (bids b t) first i))
        (λ (p : 0 < at (widths b t) i). unfold called due called_in due_in in
        share-same (need - cheaper b (order_at b t i)) (left_for need b t - below (widths b t) (bids b t) (at (bids b t) i))
        (group b t (order_at b t i)) (group_in (widths b t) (bids b t) (at (bids b t) i)) first i (left-own need t i p) (group-own t i))
        (eq-zero-or-pos (at (widths b t) i))

    calls-own : (t : Tier) → calls need b first t ≡ tier_calls (left_for need b t) (widths b t) (bids b t) first
    unfolding calls tier_calls
    calls-own t =
        let own : ℕ → ℕ = called_in (left_for need b t) (widths b t) (bids b t) first in
        table_same (rows b) (called need b first t) own (λ i l. called-own t i)
        ∙ ap (λ (n : ℕ). table n own) (sym (rows_of b apart.level t))

    pub calls-one : calls need b first one ≡ tier_calls need b.widths1 b.bids1 first
    calls-one = calls-own one

    pub calls-two : calls need b first two ≡ tier_calls (need - whole b.widths1) b.widths2 b.bids2 first
    calls-two = calls-own two

pub uncovered-tiers : (need : ℕ) (b : Bands) → uncovered need b ≡ need - whole b.widths1 - whole b.widths2
unfolding uncovered
uncovered-tiers need b = omega arith

pub tier-by-tier : (need : ℕ) (b : Bands) (first r1 r2 : ℕ) (c1 c2 : List ℕ) → Apart b
    → TierCalled need b.widths1 b.bids1 first r1 c1 → TierCalled r1 b.widths2 b.bids2 first r2 c2 → Called need b first r2 c1 c2
tier-by-tier need b first r1 r2 c1 c2 apart x y =
    record {
      called1 = x.called ∙ sym (calls-one b apart need first);
      called2 =
          y.called ∙ ap (λ (m : ℕ). tier_calls m b.widths2 b.bids2 first) x.beyond ∙ sym (calls-two b apart need first);
      beyond = omega (arith, x.beyond, y.beyond, uncovered-tiers need b);
    }
