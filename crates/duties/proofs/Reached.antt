-- The thermal average where it rules n rows (specs/Average.antt): how it lies to the baseline, to the meters and to the weights.
--   of rows in their ranges:
--     average-under          no average is above the baseline of its capacity
--     base-under             no base is, whether the average rules or not
--     averages-within        the averages of the thermal rows add up to no more than their meters
--     some-reach             some thermal row is at or above its average
--     below-above            if some thermal row is below its average, some thermal row is above its own
--     low_of                 under sound terms the sums are low, as the code asks
--   of any rows under sound terms:
--     average-once           a thermal row that pays weighs its energy above its average, counted once
--     at-average             a row exactly at its average is paid nothing and weighs nothing
--   of any rows under any terms:
--     thermal-low, still     a thermal row is at or below its baseline, another's meter is 0
--     still-weighs           a wind or solar row weighs nothing
--     ruled-base             the base of a capacity is its average
use Prim.Native.Nat.{ℕ, ◌-◌, ◌*◌, ◌≤◌, ◌<◌}
use mathlib.Core.Path.{◌≡◌, refl}
use mathlib.Core.Logic.{⊎_elim}
use mathlib.Core.Bool.{Bool, true, false, cond}
use native.Mathlib.Nat.{le_refl, mul-le-mul_left, div-mul-le_self, le_of_mul-le-mul_left}
use native.Mathlib.Omega.{arith}
use borrow.Author.Tests.{ltb-false}
use Rattle.columns.specs.Sum.{sum_where}
use Rattle.columns.specs.Table.{Below}
use Rattle.columns.proofs.Sum.{count-zero}
use Rattle.columns.proofs.Mask.{where-cross, where-cross-lt, where-reach, where-above}
use Rattle.columns.proofs.Rank.{test-or}
use Rattle.files.specs.declared.Row.{Row}
use Rattle.files.specs.declared.Terms.{Terms}
use Rattle.files.specs.Terms.{baseline, Sound}
use Rattle.files.proofs.Ranges.{RowRanges}
use Rattle.duties.specs.Duty.{energy1, energy2, payer, weight}
use Rattle.duties.specs.Average.{is_thermal, stirs, windless, thermal_energy, thermal_capacity, average_of, average_at, base_of, Low}
use Rattle.duties.proofs.Laws.{not-payer, at_base}
use Rattle.duties.proofs.Averages.{windless-some, windless-none, averaged, not-averaged, average-le}

module _ (t : Terms) (need n : ℕ) (row : ℕ → Row) where
  -- the average of row i
  abbrev own : ℕ → ℕ
  own i = average_at (average_of t need n row) (row i).capacity

  module _ (is : windless t need n row ≡ true) where
    calm : (i : ℕ) → i < n → stirs t (row i) ≡ false
    calm = count-zero n (λ i. stirs t (row i)) (windless-none t need n row is)

    pub thermal-low : (i : ℕ) → i < n → is_thermal (row i) ≡ true → (row i).metered.0 ≤ baseline t (row i).capacity
    thermal-low i l e = ltb-false (baseline t (row i).capacity) (row i).metered.0 (rw e at (calm i l))

    pub still : (i : ℕ) → i < n → is_thermal (row i) ≡ false → (row i).metered.0 ≡ 0
    still i l e = omega (arith, ltb-false 0 (row i).metered.0 (rw e at (calm i l)))

    pub ruled-base : (c : ℕ) → base_of t (average_of t need n row) c ≡ average_at (average_of t need n row) c
    ruled-base c = rw (averaged t need n row is)

    pub still-weighs : (base i : ℕ) → i < n → is_thermal (row i) ≡ false → weight base (row i) ≡ 0
    unfolding weight
    still-weighs base i l e = rw e (or-none (payer base (row i)))
      where
        or-none : (b : Bool) → cond b (row i).metered.0 0 ≡ 0
        or-none true = still i l e
        or-none false = refl

    module _ (sound : Sound t) where
      pub average-once : (i : ℕ) → i < n → is_thermal (row i) ≡ true → payer (own i) (row i) ≡ true
          → weight (own i) (row i) ≡ (row i).metered.0 - own i
      unfolding weight
      average-once i l e pays =
          rw (pays, e) (omega (arith, thermal-low i l e, mul-le-mul_left (row i).capacity sound.below))

      pub at-average : (i : ℕ) → i < n → (row i).metered.0 ≡ own i
          → (energy1 (own i) (row i) ≡ 0) × (energy2 (own i) (row i) ≡ 0) × (weight (own i) (row i) ≡ 0)
      at-average i l at =
          let paid = at_base (own i) (row i) (omega (arith, at)) in (
            paid.0,
            paid.1,
            ⊎_elim thermal (still-weighs (own i) i l) (test-or (is_thermal (row i))),
          )
        where
          thermal : is_thermal (row i) ≡ true → weight (own i) (row i) ≡ 0
          thermal e =
              ⊎_elim (λ (pays : payer (own i) (row i) ≡ true). omega (arith, at, average-once i l e pays))
              (λ (not : payer (own i) (row i) ≡ false). (not-payer (own i) 0 (row i) not).0) (test-or (payer (own i) (row i)))

  module _ (rows : Below n (λ i. RowRanges t (row i))) where
    module _ (is : windless t need n row ≡ true) where
      -- the sums: some capacity, and output within the load of the terms' percent
      some-capacity : 0 < thermal_capacity n row
      some-capacity =
          omega (
            arith,
            windless-some t need n row is,
            where-cross-lt n (λ i. is_thermal (row i)) 0 1 (λ i. 0) (λ i. (row i).capacity) (λ i l e. omega (arith, (rows i l).capacity_low)),
          )

      within-load : thermal_energy n row * 100 ≤ thermal_capacity n row * 250 * t.percent
      within-load =
          omega (
            arith,
            where-cross n (λ i. is_thermal (row i)) 100 (250 * t.percent) (λ i. (row i).metered.0) (λ i. (row i).capacity)
                (λ i l e. omega (arith, thermal-low is i l e)),
          )

      pub average-under : (c : ℕ) → average_at (average_of t need n row) c ≤ baseline t c
      average-under c =
          rw (averaged t need n row is)
          (average-le c (thermal_energy n row) (thermal_capacity n row) t.percent some-capacity within-load)

      pub averages-within : sum_where n (λ i. is_thermal (row i)) own ≤ thermal_energy n row
      averages-within =
          le_of_mul-le-mul_left {k = thermal_capacity n row}
          (omega (
            arith,
            where-cross n (λ i. is_thermal (row i)) (thermal_capacity n row) (thermal_energy n row) own (λ i. (row i).capacity)
                (λ i l e. rw (averaged t need n row is)
                (omega (arith, div-mul-le_self ((row i).capacity * thermal_energy n row) (thermal_capacity n row)))),
          )) some-capacity

      pub some-reach : (i : ℕ) × (i < n) × (is_thermal (row i) ≡ true) × (own i ≤ (row i).metered.0)
      some-reach =
          where-reach n (λ i. is_thermal (row i)) own (λ i. (row i).metered.0) (windless-some t need n row is) averages-within

      pub below-above : (i : ℕ) → i < n → is_thermal (row i) ≡ true → (row i).metered.0 < own i
          → (j : ℕ) × (j < n) × (is_thermal (row j) ≡ true) × (own j < (row j).metered.0)
      below-above i l e low = where-above n (λ j. is_thermal (row j)) own (λ j. (row j).metered.0) i l e low averages-within

      pub low_of : Sound t → Low (average_of t need n row)
      low_of sound =
          rw (averaged t need n row is)
          (record {
            some = some-capacity;
            below = omega (arith, within-load, mul-le-mul_left (thermal_capacity n row) sound.below);
          })

    pub base-under : (c : ℕ) → base_of t (average_of t need n row) c ≤ baseline t c
    base-under c = ⊎_elim ruled free (test-or (windless t need n row))
      where
        ruled : windless t need n row ≡ true → base_of t (average_of t need n row) c ≤ baseline t c
        ruled is = rw (ruled-base is c) (average-under is c)

        free : windless t need n row ≡ false → base_of t (average_of t need n row) c ≤ baseline t c
        free is = rw (not-averaged t need n row is) (le_refl (baseline t c))
