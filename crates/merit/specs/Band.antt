-- The bands of an interval's rows as columns, and the merit order among them (01, Calls and prices; Article 26).
use Rattle.std.specs.Prelude.{ℕ, ◌+◌, ◌*◌, ◌≤◌, ◌<◌, ◌≡◌, List, length}
use Rattle.columns.specs.Table.{at}

pub data Tier : Type 0 where
  one two : Tier

-- all bands of an interval: for each tier a column of widths and a column of bids, a row's place in the file being its position
pub record Bands : Type 0 where
  pub widths1 : List ℕ
  pub widths2 : List ℕ
  pub bids1 : List ℕ
  pub bids2 : List ℕ

abbrev pub widths : Bands → Tier → List ℕ
widths b one = b.widths1
widths b two = b.widths2

abbrev pub bids : Bands → Tier → List ℕ
bids b one = b.bids1
bids b two = b.bids2

abbrev pub rows : Bands → ℕ
rows b = length b.widths1

-- the merit order as one number: by rising bid, and at equal bids tier 1 before tier 2
abbrev pub order_of : Tier → ℕ → ℕ
order_of one bid = bid * 2
order_of two bid = bid * 2 + 1

abbrev pub order_at : Bands → Tier → ℕ → ℕ
order_at b t i = order_of t (at (bids b t) i)

-- no band of tier 2 is bid below a band of tier 1, where both have a width: a row without bands may bid anything
pub record Apart (b : Bands) : Type 0 where
  pub level : length b.widths2 ≡ rows b
  pub rising : (i j : ℕ) → 0 < at b.widths1 i → 0 < at b.widths2 j → at b.bids1 i ≤ at b.bids2 j
