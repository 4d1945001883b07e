-- Columns of duties within sizes: of one length, and small enough that every figure fits its field (worked out from 01's ranges,
-- with room for the requests that follow).
use Rattle.std.specs.Prelude.{ℕ, ◌+◌, ◌≤◌, ◌<◌}
use Rattle.columns.specs.Table.{at}
use Rattle.duties.specs.Duties.{Duties, Level}

-- a position that is one of n, unless there is none
abbrev pub Turn : ℕ → ℕ → Type 0
Turn n first = 0 < n → first < n

pub record Within (n : ℕ) (d : Duties) : Type 0 where
  pub few : n ≤ 256
  pub level : Level n d
  pub narrow1 : (i : ℕ) → at d.widths1 i ≤ 250000
  pub narrow2 : (i : ℕ) → at d.widths2 i ≤ 250000
  pub delivered : (i : ℕ) → at d.energies1 i + at d.energies2 i ≤ 250000
  pub light : (i : ℕ) → at d.weights i ≤ 550000000
  pub covered : (i : ℕ) → at d.caps i ≤ 44000000
  pub low1 : (i : ℕ) → at d.bids1 i ≤ 1000
  pub low2 : (i : ℕ) → at d.bids2 i ≤ 1000
  pub credited1 : (i : ℕ) → at d.credits1 i ≤ 250000
  pub credited2 : (i : ℕ) → at d.credits2 i ≤ 250000
  -- no tier 1 bid is above a tier 2 bid, where both have a width
  pub apart : (i j : ℕ) → 0 < at d.widths1 i → 0 < at d.widths2 j → at d.bids1 i ≤ at d.bids2 j
