-- Worked figures of document 01 at 100 MW and its own terms, and of the thermal average (02, request 9).
--     weights-worked       P6: thermal weights at six energies
--     energies-worked      "Run only": paid energies of tier 1 and of tier 2 at three energies
--     caps-worked          P10: the thermal cap for 1 kWh at two tariffs
--     sums-worked          units of 100, 200 and 7 MW at 9,000, 20,000 and 500 kWh: their sums, with a farm at 0, of statuses 1 to 3
--     windless-worked      where the condition holds: these units, with a farm at 0, at half load, at a stated baseline
--     stirred-worked       where it fails: a farm at 1 kWh, a unit a kWh above its baseline, need 0, no unit, no row
--     below-foot-worked    averages of these units, cut and below 40 percent: what each is paid for and weighs
--     above-foot-worked    the same of 100 MW at 9,000 and at 12,500 kWh, whose average is above 40 percent
--     level-worked         the same of units that all run at one load, and so at their average
--     statuses-worked      the same of statuses 1 to 3: none is paid, and status 3 weighs nothing
--     payers-worked        at its average a unit pays unless its status is 3, below it not
--     duties-worked        all duties of units that offer: bands from half load down, what status 2 is credited with from the average down
use Prim.Native.Nat.{ℕ}
use mathlib.Core.Path.{◌≡◌, refl}
use mathlib.Core.Bool.{Bool, true, false}
use mathlib.Core.List.{List, [], ◌∷◌, ◌++◌}
use lib.ListN.{length, get_or}
use Rattle.columns.specs.Sum.{sum_to, count_to, sum_where}
use Rattle.units.specs.Measure.{thermal_cap}
use Rattle.files.specs.declared.Row.{Row}
use Rattle.files.specs.declared.Terms.{Terms}
use Rattle.files.specs.Terms.{terms01, baseline}
use Rattle.duties.specs.Duty.{energy_in1, energy_in2, thermal_weight, width1, width2, energy1, energy2, credit1, credit2, payer, weight, cap, duty_of}
use Rattle.duties.specs.Average.{windless, average_of, average_at, usual}
use Rattle.duties.specs.declared.average.Average.{Average}

abbrev weigh : ℕ → ℕ
weigh e = thermal_weight (baseline terms01 100) 100 e

pub weights-worked : weigh 12500 ∷ weigh 15000 ∷ weigh 15001 ∷ weigh 17500 ∷ weigh 17501 ∷ weigh 27500 ∷ []
    ≡ 0 ∷ 2500 ∷ 2502 ∷ 7500 ∷ 7503 ∷ 37500 ∷ []
weights-worked = refl

abbrev in1 : ℕ → ℕ
in1 e = energy_in1 (baseline terms01 100) 100 e

abbrev in2 : ℕ → ℕ
in2 e = energy_in2 (baseline terms01 100) 100 e

pub energies-worked : in1 12499 ∷ in2 12499 ∷ in1 10000 ∷ in2 10000 ∷ in1 9999 ∷ in2 9999 ∷ []
    ≡ 1 ∷ 0 ∷ 2500 ∷ 0 ∷ 2500 ∷ 1 ∷ []
energies-worked = refl

pub caps-worked : thermal_cap 1 399 ∷ thermal_cap 1 400 ∷ [] ≡ 0 ∷ 1 ∷ []
caps-worked = refl

-- a row by kind, capacity, meter and status, and by its offer
abbrev row_with : ℕ → ℕ → ℕ → ℕ → ℕ → ℕ → ℕ → ℕ → Row
row_with kind c e status offered minimum bid1 bid2 =
    record {
      id = 1;
      kind = kind;
      capacity = c;
      metered = record { 0 = e };
      status = status;
      offered = offered;
      minimum = record { 0 = minimum };
      bid1 = record { 0 = bid1 };
      bid2 = record { 0 = bid2 };
    }

-- a row that offers nothing
abbrev row_of : ℕ → ℕ → ℕ → ℕ → Row
row_of kind c e status = row_with kind c e status 0 0 0 0

abbrev unit : ℕ → ℕ → Row
unit c e = row_of 1 c e 0

abbrev farm : ℕ → List Row
farm e = row_of 2 100 e 0 ∷ []

abbrev three : List Row
three = unit 100 9000 ∷ unit 200 20000 ∷ unit 7 500 ∷ []

-- the same units starting, reduced and in a grid accident
abbrev three-statuses : List Row
three-statuses = row_of 1 100 9000 1 ∷ row_of 1 200 20000 2 ∷ row_of 1 7 500 3 ∷ []

abbrev of : List Row → ℕ → Row
of rs i = get_or rs i (unit 0 0)

abbrev sums : List Row → Average
sums rs = average_of terms01 1 (length rs) (of rs)

abbrev ruling : ℕ → ℕ → Average
ruling e c = record { rules = true; energy = record { 0 = e }; capacity = c }

pub sums-worked : sums three ∷ sums (farm 0 ++ three) ∷ sums three-statuses ∷ sums (three ++ farm 1) ∷ []
    ≡ ruling 29500 307 ∷ ruling 29500 307 ∷ ruling 29500 307 ∷ usual ∷ []
unfolding average_of windless sum_to count_to sum_where
sums-worked = refl

-- a baseline of 45 percent
abbrev stated : Terms
stated =
    record {
      percent = 45;
      lowest1 = record { 0 = 100 };
      highest1 = record { 0 = 320 };
      lowest2 = record { 0 = 320 };
      highest2 = record { 0 = 750 };
    }

abbrev holds : Terms → ℕ → List Row → Bool
holds t need rs = windless t need (length rs) (of rs)

pub windless-worked : holds terms01 1 three
    ∷ holds terms01 1 (three ++ farm 0)
    ∷ holds terms01 1 three-statuses
    ∷ holds terms01 1 (unit 100 12500 ∷ three)
    ∷ holds stated 1 (unit 100 11250 ∷ [])
    ∷ []
    ≡ true ∷ true ∷ true ∷ true ∷ true ∷ []
unfolding windless sum_to count_to
windless-worked = refl

pub stirred-worked : holds terms01 1 (farm 1 ++ three)
    ∷ holds terms01 1 (row_of 3 100 1 3 ∷ three)
    ∷ holds terms01 1 (unit 100 12501 ∷ three)
    ∷ holds terms01 1 (row_of 1 100 12501 3 ∷ three)
    ∷ holds stated 1 (unit 100 11251 ∷ [])
    ∷ holds terms01 0 three
    ∷ holds terms01 1 (farm 0)
    ∷ holds terms01 1 []
    ∷ []
    ≡ false ∷ false ∷ false ∷ false ∷ false ∷ false ∷ false ∷ false ∷ []
unfolding windless sum_to count_to
stirred-worked = refl

-- the average of row i; then, with it as the base, paid energy in both tiers and weight
abbrev own : List Row → ℕ → ℕ
own rs i = average_at (sums rs) (of rs i).capacity

abbrev figures : List Row → ℕ → List ℕ
figures rs i = own rs i ∷ energy1 (own rs i) (of rs i) ∷ energy2 (own rs i) (of rs i) ∷ weight (own rs i) (of rs i) ∷ []

-- 2,950,000, 5,900,000 and 206,500 over 307
pub below-foot-worked : figures three 0 ∷ figures three 1 ∷ figures three 2 ∷ []
    ≡ (9609 ∷ 0 ∷ 609 ∷ 0 ∷ []) ∷ (19218 ∷ 0 ∷ 0 ∷ 782 ∷ []) ∷ (672 ∷ 0 ∷ 172 ∷ 0 ∷ []) ∷ []
unfolding average_of windless sum_to count_to sum_where energy1 energy2 payer weight
below-foot-worked = refl

abbrev two : ℕ → ℕ → List Row
two s s' = row_of 1 100 9000 s ∷ row_of 1 100 12500 s' ∷ []

pub above-foot-worked : figures (two 0 0) 0 ∷ figures (two 0 0) 1 ∷ [] ≡ (10750 ∷ 750 ∷ 1000 ∷ 0 ∷ []) ∷ (10750 ∷ 0 ∷ 0 ∷ 1750 ∷ []) ∷ []
unfolding average_of windless sum_to count_to sum_where energy1 energy2 payer weight
above-foot-worked = refl

-- 44 percent of three capacities, one of them in a grid accident, and a farm that stands still
abbrev level : List Row
level = unit 100 11000 ∷ row_of 1 200 22000 3 ∷ unit 7 770 ∷ farm 0

pub level-worked : figures level 0 ∷ figures level 1 ∷ figures level 2 ∷ figures level 3 ∷ []
    ≡ (11000 ∷ 0 ∷ 0 ∷ 0 ∷ []) ∷ (22000 ∷ 0 ∷ 0 ∷ 0 ∷ []) ∷ (770 ∷ 0 ∷ 0 ∷ 0 ∷ []) ∷ (11000 ∷ 0 ∷ 0 ∷ 0 ∷ []) ∷ []
unfolding average_of windless sum_to count_to sum_where energy1 energy2 payer weight
level-worked = refl

pub statuses-worked : figures (two 1 1) 0 ∷ figures (two 2 2) 0 ∷ figures (two 3 3) 0 ∷ figures (two 1 1) 1 ∷ figures (two 2 2) 1 ∷ figures (two 3 3) 1 ∷ []
    ≡ (10750 ∷ 0 ∷ 0 ∷ 0 ∷ [])
    ∷ (10750 ∷ 0 ∷ 0 ∷ 0 ∷ [])
    ∷ (10750 ∷ 0 ∷ 0 ∷ 0 ∷ [])
    ∷ (10750 ∷ 0 ∷ 0 ∷ 1750 ∷ [])
    ∷ (10750 ∷ 0 ∷ 0 ∷ 1750 ∷ [])
    ∷ (10750 ∷ 0 ∷ 0 ∷ 0 ∷ [])
    ∷ []
unfolding average_of windless sum_to count_to sum_where energy1 energy2 payer weight
statuses-worked = refl

abbrev pays_at : List Row → ℕ → Bool
pays_at rs i = payer (own rs i) (of rs i)

pub payers-worked : pays_at level 0 ∷ pays_at level 1 ∷ pays_at level 2 ∷ pays_at level 3 ∷ pays_at three 0 ∷ pays_at three 1 ∷ []
    ≡ true ∷ false ∷ true ∷ true ∷ false ∷ true ∷ []
unfolding average_of windless sum_to count_to sum_where payer
payers-worked = refl

-- a unit of 100 MW that offers down to 8,000 kWh, by meter and status
abbrev offering : ℕ → ℕ → Row
offering e status = row_with 1 100 e status 1 8000 200 400

-- its duties at tariff 1300, with half load as its limit and 10,750 as its base
abbrev duties : Row → List ℕ
duties r =
    let d = duty_of (baseline terms01 100) (average_at (ruling 21500 200) 100) 1300 r in
    d.width1.0 ∷ d.width2.0 ∷ d.energy1.0 ∷ d.energy2.0 ∷ d.credit1.0 ∷ d.credit2.0 ∷ d.weight.0 ∷ d.cap.0 ∷ []

pub duties-worked : duties (offering 9000 0) ∷ duties (offering 9000 2) ∷ duties (offering 12500 0) ∷ []
    ≡ (2500 ∷ 2000 ∷ 750 ∷ 1000 ∷ 2500 ∷ 2000 ∷ 0 ∷ 0 ∷ [])
    ∷ (2500 ∷ 2000 ∷ 0 ∷ 0 ∷ 750 ∷ 1000 ∷ 0 ∷ 0 ∷ [])
    ∷ (2500 ∷ 2000 ∷ 0 ∷ 0 ∷ 2500 ∷ 2000 ∷ 1750 ∷ 40625 ∷ [])
    ∷ []
unfolding duty_of width1 width2 energy1 energy2 credit1 credit2 payer weight cap
duties-worked = refl
