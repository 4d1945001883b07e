-- Laws of the thermal average (specs/Average.antt); what it comes to where it rules is in proofs/Reached.antt.
--   of any terms and any rows:
--     windless-need, windless-some, windless-none     what the condition says: need, a thermal row, no row that stirs
--     averaged, not-averaged   where the condition holds the average has the sums of the thermal rows; where it fails none rules
--     needless                 where nothing is needed none rules
--     average-le, low-average  an average whose sums are within a load is within it; that of low sums is at most half load
--   as the code asks for them:
--     joined_of, joined-fits, half-fits, by-loads, low_load      the steps of the code
--     Scanned, scanned-none, scanned-more, scanned-fits, scanned-stop, scanned-all     how far the scan for the condition has come
use Prim.Native.Nat.{ℕ, zero, suc, ◌+◌, ◌*◌, ◌/◌, ◌^◌, ◌≤◌, ◌<◌}
use mathlib.Core.Path.{◌≡◌, refl, sym, ap, ◌∙◌}
use mathlib.Core.Logic.{⊎_elim}
use mathlib.Core.Bool.{Bool, true, false, cond, ◌&&◌, ◌||◌}
use native.Mathlib.Nat.{eq-zero-or-pos, div-mul-le_self, mul-le-mul_left, le_of_mul-le-mul_right}
use native.Mathlib.Omega.{arith}
use lib.Dec.{ltb, eqb}
use borrow.Author.Tests.{ltb-true, eqb-true, lt-ltb, ne_eqb}
use Rattle.columns.specs.Sum.{bit, sum_to, count_to, sum_where}
use Rattle.columns.specs.Table.{Below}
use Rattle.columns.proofs.First.{left-true, right-true}
use Rattle.columns.proofs.Sum.{count_next, count-some, count-zero}
use Rattle.columns.proofs.Mask.{where_next, where-bound, where-none}
use Rattle.units.specs.Load.{load}
use Rattle.units.specs.declared.Kwh.{Kwh}
use Rattle.files.specs.declared.Row.{Row}
use Rattle.files.specs.declared.Terms.{Terms}
use Rattle.files.proofs.Ranges.{RowRanges}
use Rattle.duties.specs.Duty.{duty_of}
use Rattle.duties.specs.Average.{is_thermal, stirs, windless, thermal_energy, thermal_capacity, usual, joined, average_of, average_at, Low}
use Rattle.duties.specs.declared.Duty.{Duty}
use Rattle.duties.specs.declared.average.Average.{Average}

-- ---- as the code asks

pub joined_of : (a : Average) (r : Row) (x e : Kwh) (y : ℕ) → x.0 ≡ cond (eqb r.kind 1) r.metered.0 0
    → e.0 ≡ a.energy.0 + x.0 → y ≡ cond (eqb r.kind 1) r.capacity 0
    → ◌≡◌ {A = Average} (record { rules = a.rules || eqb r.kind 1; energy = e; capacity = a.capacity + y }) (joined a r)
joined_of a r x e y f g h =
    λ j. record {
      rules = a.rules || eqb r.kind 1;
      energy = record { 0 = (g ∙ ap (λ (m : ℕ). a.energy.0 + m) f) j };
      capacity = a.capacity + h j;
    }

pub joined-fits : (b : Bool) (a m x : ℕ) → a + m < 2 ^ 32 → x ≡ cond b m 0 → a + x < 2 ^ 32
joined-fits true a m x h e = omega arith
joined-fits false a m x h e = omega arith

-- an average whose sums are within a load of p percent is within that load
pub average-le : (c e total p : ℕ) → 0 < total → e * 100 ≤ total * 250 * p → c * e / total ≤ load c p
average-le c e total p some below =
    let low : c * e / total * 100 ≤ c * 250 * p =
    le_of_mul-le-mul_right {k = total} (omega (arith, div-mul-le_self (c * e) total, mul-le-mul_left c below)) some in
    omega arith

pub low-average : (a : Average) (c : ℕ) → Low a → average_at a c ≤ load c 50
low-average a c low = average-le c a.energy.0 a.capacity 50 low.some (omega (arith, low.below))

pub half-fits : (a : Average) (c e : ℕ) → Low a → e ≡ a.energy.0 → c ≤ 65535 → c * e / a.capacity < 2 ^ 32
half-fits a c e low is few = rw is (omega (arith, low-average a c low))

-- the duties by loads that are known
pub by-loads : (limit base l b tariff : ℕ) (r : Row) (d : Duty) → l ≡ limit → b ≡ base → d ≡ duty_of l b tariff r → d ≡ duty_of limit base tariff r
by-loads limit base l b tariff r d e f h = h ∙ (λ j. duty_of (e j) (f j) tariff r)

-- a base of at most half load is below 60 percent
pub low_load : (a : Average) (c base : ℕ) → Low a → base ≡ average_at a c → base ≤ load c 60
low_load a c base low e = omega (arith, e, low-average a c low)

-- ---- the condition

last-false : (a b : Bool) → a && (b && false) ≡ false
last-false true true = refl
last-false true false = refl
last-false false b = refl

module _ (t : Terms) (need n : ℕ) (row : ℕ → Row) where
  abbrev some : Bool
  some = ltb 0 (count_to n (λ i. is_thermal (row i)))

  abbrev none : Bool
  none = eqb (count_to n (λ i. stirs t (row i))) 0

  module _ (is : windless t need n row ≡ true) where
    pub windless-need : 0 < need
    unfolding windless
    windless-need = ltb-true 0 need (left-true (ltb 0 need) (some && none) is)

    pub windless-some : 0 < count_to n (λ i. is_thermal (row i))
    unfolding windless
    windless-some =
        ltb-true 0 (count_to n (λ i. is_thermal (row i))) (left-true some none (right-true (ltb 0 need) (some && none) is))

    pub windless-none : count_to n (λ i. stirs t (row i)) ≡ 0
    unfolding windless
    windless-none =
        eqb-true (count_to n (λ i. stirs t (row i))) 0 (right-true some none (right-true (ltb 0 need) (some && none) is))

    pub averaged : average_of t need n row
        ≡ record { rules = true; energy = record { 0 = thermal_energy n row }; capacity = thermal_capacity n row }
    unfolding average_of
    averaged = rw is

  pub not-averaged : windless t need n row ≡ false → average_of t need n row ≡ usual
  unfolding average_of
  not-averaged is = rw is

  -- nothing needed, or a row that stirs: the condition fails
  pub needless : need ≡ 0 → usual ≡ average_of t need n row
  unfolding windless
  needless none = sym (not-averaged (rw none refl))

  stirred : ((count_to n (λ i. stirs t (row i))) ≡ 0 → ⊥) → windless t need n row ≡ false
  unfolding windless
  stirred met = rw (ne_eqb (count_to n (λ i. stirs t (row i))) 0 met) (last-false (ltb 0 need) some)

-- ---- the scan

-- the sums of the rows below i; "rules" says whether one of them is thermal
abbrev sums_to : ℕ → (ℕ → Row) → Average
sums_to i row =
    record {
      rules = ltb 0 (count_to i (λ k. is_thermal (row k)));
      energy = record { 0 = thermal_energy i row };
      capacity = thermal_capacity i row;
    }

-- how far the scan has come before row i: no row passed stirs, and the sums are theirs
pub record Scanned (t : Terms) (row : ℕ → Row) (i : ℕ) (a : Average) : Type 0 where
  pub none : count_to i (λ k. stirs t (row k)) ≡ 0
  pub sums : a ≡ sums_to i row

-- a thermal row more makes the count positive, another leaves it
one_more : (b : Bool) (m : ℕ) → ltb 0 m || b ≡ ltb 0 (m + bit b)
one_more true zero = refl
one_more true (suc m) = rw (lt-ltb 0 (suc m) (omega arith), lt-ltb 0 (suc m + 1) (omega arith)) refl
one_more false zero = refl
one_more false (suc m) = rw (lt-ltb 0 (suc m) (omega arith), lt-ltb 0 (suc m + 0) (omega arith)) refl

-- where something is needed and no row stirs, the sums are the average's; those of no thermal row are 0
sums-are : (t : Terms) (need n : ℕ) (row : ℕ → Row) → 0 < need → count_to n (λ k. stirs t (row k)) ≡ 0 → sums_to n row ≡ average_of t need n row
unfolding windless
sums-are t need n row some none =
    ⊎_elim
    (λ (e : count_to n p ≡ 0).
    (λ j. record { rules = ltb 0 (e j); energy = record { 0 = no-sum e (λ k. (row k).metered.0) j }; capacity = no-sum e (λ k. (row k).capacity) j })
    ∙ sym (not-averaged t need n row (rw (lt-ltb 0 need some, e) refl)))
    (λ (m : 0 < count_to n p).
    (λ j. record { rules = lt-ltb 0 (count_to n p) m j; energy = record { 0 = thermal_energy n row }; capacity = thermal_capacity n row })
    ∙ sym (averaged t need n row (rw (lt-ltb 0 need some, lt-ltb 0 (count_to n p) m, none) refl)))
    (eq-zero-or-pos (count_to n p))
  where
    p : ℕ → Bool
    p k = is_thermal (row k)

    no-sum : count_to n p ≡ 0 → (f : ℕ → ℕ) → sum_where n p f ≡ 0
    no-sum e f = where-none n p f (count-zero n p e)

module _ (t : Terms) (row : ℕ → Row) where
  pub scanned-none : Scanned t row 0 usual
  unfolding count_to sum_where sum_to
  scanned-none = record { none = refl; sums = refl }

  module _ (i : ℕ) (a : Average) (scanned : Scanned t row i a) where
    pub scanned-more : (r : Row) (x : Bool) (b : Average) → r ≡ row i → x ≡ stirs t r → x ≡ false → b ≡ joined a r → Scanned t row (i + 1) b
    scanned-more r x b is tested calm made =
        let calm-i : stirs t (row i) ≡ false = sym (ap (stirs t) is) ∙ sym tested ∙ calm in
        record {
          none = count_next i (λ k. stirs t (row k)) ∙ (λ j. scanned.none j + bit (calm-i j));
          sums = made ∙ (λ j. joined (scanned.sums j) (is j))
              ∙ (λ j. record {
                rules =
                    (one_more (is_thermal (row i)) (count_to i (λ k. is_thermal (row k)))
                    ∙ ap (ltb 0) (sym (count_next i (λ k. is_thermal (row k))))) j;
                energy = record { 0 = sym (where_next i (λ k. is_thermal (row k)) (λ k. (row k).metered.0)) j };
                capacity = sym (where_next i (λ k. is_thermal (row k)) (λ k. (row k).capacity)) j;
              });
        }

    module _ (n : ℕ) (few : n ≤ 256) (l : i < n) (rows : Below n (λ k. RowRanges t (row k))) where
      metered-most : Below n (λ k. (row k).metered.0 ≤ 550000)
      metered-most k m = omega (arith, (rows k m).metered, (rows k m).capacity_high)

      -- the next row's figures can be added
      pub scanned-fits : (r : Row) → r ≡ row i → (a.energy.0 + r.metered.0 < 2 ^ 32) × (a.capacity + r.capacity < 2 ^ 32)
      scanned-fits r is =
          let energy = where-bound i 550000 (λ k. is_thermal (row k)) (λ k. (row k).metered.0) (λ k m. metered-most k (omega arith)) in
          let capacity = where-bound i 2000 (λ k. is_thermal (row k)) (λ k. (row k).capacity) (λ k m. (rows k (omega arith)).capacity_high) in
          rw (scanned.sums, is) (omega (arith, energy, metered-most i l), omega (arith, capacity, (rows i l).capacity_high))

    -- a row that stirs: the condition fails
    pub scanned-stop : (need n : ℕ) (r : Row) (x : Bool) → i < n → r ≡ row i → x ≡ stirs t r → x ≡ true → usual ≡ average_of t need n row
    scanned-stop need n r x l is tested on =
        let met : 0 < count_to n (λ k. stirs t (row k)) =
        count-some n (λ k. stirs t (row k)) i l (sym (ap (stirs t) is) ∙ sym tested ∙ on) in
        sym (not-averaged t need n row (stirred t need n row (omega arith)))

    -- no row is left: the sums are the average's
    pub scanned-all : (need n : ℕ) → 0 < need → i ≡ n → a ≡ average_of t need n row
    scanned-all need n some end =
        scanned.sums ∙ (λ j. sums_to (end j) row) ∙ sums-are t need n row some (rw end at scanned.none)
