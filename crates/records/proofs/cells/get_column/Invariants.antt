-- `records::get_column` meets its contract: the cells before record i stand in the column.
use Rattle.columns.proofs.Fill.{Reached}
use Rattle.records.specs.Sheet.{cell}
use Rattle.records.proofs.cells.get_column.Given as goal

abbrev pub invariant-loop-i : goal.invariant-loop-i
invariant-loop-i l = Reached 0 (cell l.f l.s) l.initial.column l.column l.i
