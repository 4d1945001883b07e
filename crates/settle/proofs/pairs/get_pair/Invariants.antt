-- `settle::pairs::get_pair` meets its contract: the cells of both fields before line i stand in their columns.
use Rattle.settle.proofs.LineByLine.{ReadTo}
use Rattle.settle.proofs.pairs.get_pair.Given as goal

abbrev pub invariant-loop-i : goal.invariant-loop-i
invariant-loop-i l = ReadTo l.one l.two l.sheet l.initial.first l.initial.second l.first l.second l.i
