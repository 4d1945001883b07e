-- What a row is paid for the energy that it delivered in each tier (01, Compensation; Article 28), and what it owes for the energy that
-- it was called for and did not deliver (02, request 4; Article 52).
use Rattle.std.specs.Prelude.{ℕ, ◌+◌, ◌-◌, ◌*◌, cond, ltb}
use Rattle.units.specs.Measure.{priced, to_fen}

-- a tier's product in li: nothing unless the row was called for more than 0 there
abbrev pub tier_pay : ℕ → ℕ → ℕ → ℕ
tier_pay call energy price = cond (ltb 0 call) (priced energy price) 0

-- what a row is paid in fen: both tiers added in li and brought to fen once
abbrev pub compensation : ℕ → ℕ → ℕ → ℕ → ℕ → ℕ → ℕ
compensation call1 call2 energy1 energy2 price1 price2 = to_fen (tier_pay call1 energy1 price1 + tier_pay call2 energy2 price2)

-- a tier's penalty in li: twice its price for each kWh called there and not delivered; nothing where more was delivered
abbrev pub tier_penalty : ℕ → ℕ → ℕ → ℕ
tier_penalty call delivered price = 2 * priced (call - delivered) price

-- what a row owes in fen: both tiers added in li and brought to fen once; too much in one tier does not make up for the other
abbrev pub penalty : ℕ → ℕ → ℕ → ℕ → ℕ → ℕ → ℕ
penalty call1 call2 delivered1 delivered2 price1 price2 =
    to_fen (tier_penalty call1 delivered1 price1 + tier_penalty call2 delivered2 price2)
