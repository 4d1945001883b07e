-- `settle::pairs::put_pair` meets its contract: the cells of both fields before line i hold the columns' numbers.
use Rattle.std.proofs.Common.{length}
use Rattle.settle.proofs.LineByLine.{WrittenTo}
use Rattle.settle.proofs.pairs.put_pair.Given as goal

abbrev pub invariant-loop-i : goal.invariant-loop-i
invariant-loop-i l = WrittenTo l.one l.two l.first l.second l.initial.sheet l.sheet (length l.yielded)
