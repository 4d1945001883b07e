-- What a row offers, delivered, is credited with, weighs and may be asked to pay (01, Calls and prices, Compensation, Weights and caps;
-- 02, requests 4 and 9). Two loads of the row in kWh rule it: its limit, where its bands begin, and its base, from which paid energy, who
-- pays and weights are counted. Both are the baseline of the terms, unless the thermal average takes the base's place (specs/Average.antt).
use Rattle.std.specs.Prelude.{ℕ, ◌+◌, ◌-◌, ◌*◌, min, max, Bool, cond, not, ◌&&◌, leb, eqb}
use Rattle.units.specs.Measure.{thermal_cap, renewable_cap}
use Rattle.units.specs.Load.{load}
use Rattle.files.specs.declared.Row.{Row}
use Rattle.duties.specs.declared.Duty.{Duty}

-- the kind whose baseline matters; wind and solar are the others
abbrev pub thermal : ℕ
thermal = 1

-- the statuses: 0 normal, 1 starting or stopping, 2 reduced for reasons of its own, 3 grid accident
abbrev pub normal : ℕ
normal = 0

abbrev pub starting : ℕ
starting = 1

abbrev pub reduced : ℕ
reduced = 2

abbrev pub accident : ℕ
accident = 3

-- 40 percent of full load: where tier 1 ends and tier 2 begins
abbrev pub foot : ℕ → ℕ
foot c = load c 40

-- 60 percent: above it a thermal unit's energy counts twice
abbrev pub sixty : ℕ → ℕ
sixty c = load c 60

-- 70 percent: above it a thermal unit's energy counts three times
abbrev pub seventy : ℕ → ℕ
seventy c = load c 70

-- Article 25: tier 1 runs from the limit down to the larger of the minimum and 40 percent; a row that offers nothing has no band
unfoldable pub width1 : ℕ → Row → ℕ
width1 limit r = cond (eqb r.offered 1) (limit - max r.minimum.0 (foot r.capacity)) 0

-- tier 2 runs from 40 percent down to the minimum, empty where the minimum is not below
unfoldable pub width2 : Row → ℕ
width2 r = cond (eqb r.offered 1) (foot r.capacity - r.minimum.0) 0

-- Article 27: energy e delivers in tier 1 from the base down to the larger of e and 40 percent; nothing at or above the base
abbrev pub energy_in1 : ℕ → ℕ → ℕ → ℕ
energy_in1 base c e = base - max e (foot c)

-- and in tier 2 from 40 percent, or a base below it, down to e
abbrev pub energy_in2 : ℕ → ℕ → ℕ → ℕ
energy_in2 base c e = min base (foot c) - e

-- the energy that a row's meter shows in each tier, whether it is paid for it or not
abbrev pub meter_energy1 : ℕ → Row → ℕ
meter_energy1 base r = energy_in1 base r.capacity r.metered.0

abbrev pub meter_energy2 : ℕ → Row → ℕ
meter_energy2 base r = energy_in2 base r.capacity r.metered.0

-- 01, Compensation: thermal rows of status 0 are paid for what they delivered, others not
abbrev pub receives : Row → Bool
receives r = eqb r.kind thermal && eqb r.status normal

-- the energy that a row is paid for in tier 1
unfoldable pub energy1 : ℕ → Row → ℕ
energy1 base r = cond (receives r) (meter_energy1 base r) 0

-- the energy that a row is paid for in tier 2
unfoldable pub energy2 : ℕ → Row → ℕ
energy2 base r = cond (receives r) (meter_energy2 base r) 0

-- 02, request 4 (Article 52): a thermal row of status 2 owes for what it was called for and did not deliver, others not
abbrev pub liable : Row → Bool
liable r = eqb r.kind thermal && eqb r.status reduced

-- what counts as delivered of a call in tier 1: by the meter for a row that owes the rest, all that it offers for any other
unfoldable pub credit1 : ℕ → ℕ → Row → ℕ
credit1 limit base r = cond (liable r) (meter_energy1 base r) (width1 limit r)

-- and in tier 2
unfoldable pub credit2 : ℕ → Row → ℕ
credit2 base r = cond (liable r) (meter_energy2 base r) (width2 r)

-- Articles 21, 29: wind and solar of status 0 pay, and thermal rows at or above the base unless their status is 3
unfoldable pub payer : ℕ → Row → Bool
payer base r =
    cond (eqb r.kind thermal) (leb base r.metered.0 && not (eqb r.status accident)) (eqb r.status normal)

-- a thermal unit's energy above the base counts once up to 60 percent, twice up to 70, three times above
abbrev pub thermal_weight : ℕ → ℕ → ℕ → ℕ
thermal_weight base c e = (min e (sixty c) - base) + 2 * (min e (seventy c) - sixty c) + 3 * (e - seventy c)

-- the weight of a row, which the mission calls corrected energy; 0 for a row that does not pay
unfoldable pub weight : ℕ → Row → ℕ
weight base r =
    cond (payer base r) (cond (eqb r.kind thermal) (thermal_weight base r.capacity r.metered.0) r.metered.0) 0

-- Article 30: the cap of a row in fen, by its kind's share of the tariff in hao; 0 for a row that does not pay
unfoldable pub cap : ℕ → ℕ → Row → ℕ
cap base tariff r =
    cond (payer base r)
    (cond (eqb r.kind thermal) (thermal_cap r.metered.0 tariff) (renewable_cap r.metered.0 tariff))
    0

-- all of it together
unfoldable pub duty_of : ℕ → ℕ → ℕ → Row → Duty
duty_of limit base tariff r =
    record {
      width1 = record { 0 = width1 limit r };
      width2 = record { 0 = width2 r };
      energy1 = record { 0 = energy1 base r };
      energy2 = record { 0 = energy2 base r };
      credit1 = record { 0 = credit1 limit base r };
      credit2 = record { 0 = credit2 base r };
      weight = record { 0 = weight base r };
      cap = record { 0 = cap base tariff r };
      bid1 = r.bid1;
      bid2 = r.bid2;
    }
