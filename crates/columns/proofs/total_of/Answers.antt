-- `columns::total_of` meets its contract: std's sum of the column is its whole.
use Rattle.std.proofs.Common.{rules}
use Rattle.columns.proofs.Whole.{sum_whole}
use Rattle.columns.proofs.total_of.Goals as goal

pub returns : goal.returns
returns c = search (rules, sum_whole)
