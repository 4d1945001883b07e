-- Loads of a capacity of c MW over a quarter hour, in kWh (01, Units of account): full load is 250c.
use Rattle.std.specs.Prelude.{ℕ, ◌*◌, ◌/◌}

-- so many percent of full load, cut to whole kWh
abbrev pub load : ℕ → ℕ → ℕ
load c percent = c * 250 * percent / 100

-- 110 percent of full load: no meter reads more
abbrev pub most : ℕ → ℕ
most c = c * 275
