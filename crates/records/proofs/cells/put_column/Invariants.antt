-- `records::put_column` meets its contract: the cells before record i hold the column's numbers.
use Rattle.records.proofs.Column.{Filled}
use Rattle.records.proofs.cells.put_column.Given as goal

abbrev pub invariant-loop-i : goal.invariant-loop-i
invariant-loop-i l = Filled l.f l.column l.initial.s l.s l.i
