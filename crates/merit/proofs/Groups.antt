-- The bands of both tiers by their order: what stands before an order, and at it (specs/Call.antt). An order belongs to one tier only.
--     cheaper-next     what stands before the next order
--     cheaper-tier     the same, from one tier's group alone
--     cheaper-rise     what stands before an order rises with it
--     cheaper-all      past every order stand all bands
--     groups-apart     of one order, one tier has no band with a width
use Prim.Native.Nat.{ℕ, suc, ◌+◌, ◌%◌, ◌≤◌, ◌<◌}
use mathlib.Core.Path.{◌≡◌, refl, ap, sym, ◌∙◌}
use mathlib.Core.Logic.{◌⊎◌, inl, inr, ⊎_elim}
use native.Mathlib.Nat.{eq-zero-or-pos}
use native.Mathlib.Omega.{arith}
use lib.ListN.{length}
use Rattle.columns.specs.Sum.{sum_to, whole}
use Rattle.columns.specs.Table.{at, Below}
use Rattle.merit.specs.Band.{Tier, one, two, Bands, widths, rows, order_at}
use Rattle.merit.specs.Call.{cheaper_in, cheaper, group}
use Rattle.merit.proofs.Keyed.{before, peers, peers-none, before-next, before-rise, before-zero, before-all}

module _ (b : Bands) where
  in-next : (t : Tier) (k : ℕ) → cheaper_in b t (suc k) ≡ cheaper_in b t k + whole (group b t k)
  unfolding cheaper_in group before peers
  in-next t k = before-next (rows b) (order_at b t) (at (widths b t)) k

  pub cheaper-next : (k : ℕ) → cheaper b (suc k) ≡ cheaper b k + (whole (group b one k) + whole (group b two k))
  unfolding cheaper
  cheaper-next k = omega (arith, in-next one k, in-next two k)

  pub cheaper-tier : (t : Tier) (k : ℕ) → cheaper b k + whole (group b t k) ≤ cheaper b (suc k)
  cheaper-tier one k = omega (arith, cheaper-next k)
  cheaper-tier two k = omega (arith, cheaper-next k)

  in-rise : (t : Tier) (j k : ℕ) → j ≤ k → cheaper_in b t j ≤ cheaper_in b t k
  unfolding cheaper_in before
  in-rise t j k h = before-rise (rows b) (order_at b t) (at (widths b t)) j k h

  pub cheaper-rise : (j k : ℕ) → j ≤ k → cheaper b j ≤ cheaper b k
  unfolding cheaper
  cheaper-rise j k h = omega (arith, in-rise one j k h, in-rise two j k h)

  in-zero : (t : Tier) → cheaper_in b t 0 ≡ 0
  unfolding cheaper_in before
  in-zero t = before-zero (rows b) (order_at b t) (at (widths b t))

  pub cheaper-zero : cheaper b 0 ≡ 0
  unfolding cheaper
  cheaper-zero = omega (arith, in-zero one, in-zero two)

  even-none : (k : ℕ) → k % 2 ≡ 0 → whole (group b two k) ≡ 0
  unfolding group peers
  even-none k e = peers-none (rows b) (order_at b two) (at (widths b two)) k (λ i f. omega arith)

  odd-none : (k : ℕ) → 0 < k % 2 → whole (group b one k) ≡ 0
  unfolding group peers
  odd-none k e = peers-none (rows b) (order_at b one) (at (widths b one)) k (λ i f. omega arith)

  pub groups-apart : (k : ℕ) → (whole (group b one k) ≡ 0) ⊎ (whole (group b two k) ≡ 0)
  groups-apart k = ⊎_elim (λ (e : k % 2 ≡ 0). inr (even-none k e)) (λ (e : 0 < k % 2). inl (odd-none k e)) (eq-zero-or-pos (k % 2))

  module _ (level : length b.widths2 ≡ rows b) where
    pub rows_of : (t : Tier) → length (widths b t) ≡ rows b
    rows_of one = refl
    rows_of two = level

    -- past every band with a width
    pub in_all : (t : Tier) (k : ℕ) → Below (rows b) (λ i. k ≤ order_at b t i → at (widths b t) i ≡ 0)
        → cheaper_in b t k ≡ whole (widths b t)
    unfolding cheaper_in before whole
    in_all t k h =
        before-all (rows b) (order_at b t) (at (widths b t)) k h
        ∙ ap (λ (n : ℕ). sum_to n (at (widths b t))) (sym (rows_of t))

    pub cheaper-all : (k : ℕ) → ((t : Tier) → Below (rows b) (λ i. order_at b t i < k))
        → cheaper b k ≡ whole (widths b one) + whole (widths b two)
    unfolding cheaper
    cheaper-all k h =
        omega (arith, in_all one k (λ i l m. absurd (omega (arith, h one i l))), in_all two k (λ i l m. absurd (omega (arith, h two i l))))
