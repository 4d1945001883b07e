-- `records::put_cell` meets its contract: a number put at the cell's place.
use Rattle.records.specs.Sheet.{with_cell}
use Rattle.std.proofs.lemmas.Grind.{common_steps}
use native.Mathlib.Omega.{arith}
use Rattle.records.proofs.cells.put_cell.Goals as goal

pub returns : goal.returns
unfolding with_cell
returns c = grind (arith, common_steps)
