-- `settle::rows::Pair::read` meets its contract: the lines of the rows passed are put.
use Rattle.std.proofs.Common.{◌≡◌}
use Rattle.settle.specs.Work.{row_line, lined}
use Rattle.settle.proofs.rows.Pair.read.Given as goal

abbrev pub invariant-loop-i : goal.invariant-loop-i
invariant-loop-i g l = l.sheet ≡ lined l.initial.sheet l.i (row_line l.self.job.tariff.0 l.ruling l.self.interval.now l.self.correction.now)
