-- The sizes that the code asks of a row, so that its figures fit their types.
use Rattle.std.specs.Prelude.{◌^◌, ◌≤◌}
use Rattle.files.specs.declared.Row.{Row}

-- a weight counts energy up to three times and has to fit 32 bits
pub record Ranged (r : Row) : Type 0 where
  pub metered : r.metered.0 ≤ 2 ^ 30
