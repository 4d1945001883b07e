-- From one measure to another (01, Units of account): energy in kWh, bids in li, tariffs in hao, money in fen.
use Rattle.std.specs.Prelude.{ℕ, ◌+◌, ◌*◌, ◌/◌}

-- energy at a price in li for each kWh, in li
abbrev pub priced : ℕ → ℕ → ℕ
priced e p = e * p

-- 01, Compensation: li brought to fen, half a fen upward
abbrev pub to_fen : ℕ → ℕ
to_fen x = (x + 5) / 10

-- Article 30: the most a thermal unit pays for its metered energy e at tariff t, cut to whole fen
abbrev pub thermal_cap : ℕ → ℕ → ℕ
thermal_cap e t = e * t / 400

-- Article 30: the most a wind or solar farm pays for its metered energy e at tariff t, cut to whole fen
abbrev pub renewable_cap : ℕ → ℕ → ℕ
renewable_cap e t = e * t / 200
