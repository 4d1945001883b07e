-- What `split` asks of its caller, and no more: no product is assumed to fit.
use Rattle.std.specs.Prelude.{ℕ, ◌≤◌, ◌<◌, ◌^◌, ◌≡◌, List, length}
use Rattle.columns.specs.Sum.{whole}

pub record Splittable (ws out : List ℕ) (first : ℕ) : Type 0 where
  -- a column of up to 256
  pub short : length ws ≤ 256
  -- as much room as weights
  pub room : length out ≡ length ws
  -- the sum of the weights fits 64 bits
  pub fits : whole ws < 2 ^ 64
  -- the position that goes first is one of the column
  pub inside : 0 < length ws → first < length ws
