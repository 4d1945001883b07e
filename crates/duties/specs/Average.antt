-- When there is no wind and everybody is low (02, request 9; Article 22): the thermal average takes the base's place.
use Rattle.std.specs.Prelude.{ℕ, ◌+◌, ◌*◌, ◌/◌, ◌≤◌, ◌<◌, Bool, true, false, cond, ◌&&◌, ◌||◌, ltb, eqb}
use Rattle.columns.specs.Sum.{count_to, sum_where}
use Rattle.files.specs.declared.Row.{Row}
use Rattle.files.specs.declared.Terms.{Terms}
use Rattle.files.specs.Terms.{baseline}
use Rattle.duties.specs.Duty.{thermal}
use Rattle.duties.specs.declared.average.Average.{Average}

abbrev pub is_thermal : Row → Bool
is_thermal r = eqb r.kind thermal

-- a row that keeps the average from ruling, whatever its status: a thermal one above its baseline, a wind or solar one above 0
abbrev pub stirs : Terms → Row → Bool
stirs t r = ltb (cond (is_thermal r) (baseline t r.capacity) 0) r.metered.0

-- the condition on n rows: need is above 0, some row is thermal, and none stirs
unfoldable pub windless : Terms → ℕ → ℕ → (ℕ → Row) → Bool
windless t need n row =
    ltb 0 need && (ltb 0 (count_to n (λ i. is_thermal (row i))) && eqb (count_to n (λ i. stirs t (row i))) 0)

-- output and capacity of the thermal rows, of whatever status
abbrev pub thermal_energy : ℕ → (ℕ → Row) → ℕ
thermal_energy n row = sum_where n (λ i. is_thermal (row i)) (λ i. (row i).metered.0)

abbrev pub thermal_capacity : ℕ → (ℕ → Row) → ℕ
thermal_capacity n row = sum_where n (λ i. is_thermal (row i)) (λ i. (row i).capacity)

-- where the average does not rule, its sums are left 0
abbrev pub usual : Average
usual = record { rules = false; energy = record { 0 = 0 }; capacity = 0 }

-- the sums of rows with one more, which rule once one of them is thermal
abbrev pub joined : Average → Row → Average
joined a r =
    record {
      rules = a.rules || is_thermal r;
      energy = record { 0 = a.energy.0 + cond (is_thermal r) r.metered.0 0 };
      capacity = a.capacity + cond (is_thermal r) r.capacity 0;
    }

-- whether the average rules n rows, and if so by which sums
unfoldable pub average_of : Terms → ℕ → ℕ → (ℕ → Row) → Average
average_of t need n row =
    cond (windless t need n row)
    (record { rules = true; energy = record { 0 = thermal_energy n row }; capacity = thermal_capacity n row }) usual

-- the average of a capacity c: c times the output over the capacities, cut to whole kWh once the product is made
abbrev pub average_at : Average → ℕ → ℕ
average_at a c = c * a.energy.0 / a.capacity

-- the base of a capacity
abbrev pub base_of : Terms → Average → ℕ → ℕ
base_of t a c = cond a.rules (average_at a c) (baseline t c)

-- sums of thermal rows that are all at or below half load, so that their average is too
pub record Low (a : Average) : Type 0 where
  pub some : 0 < a.capacity
  pub below : a.energy.0 ≤ a.capacity * 125
