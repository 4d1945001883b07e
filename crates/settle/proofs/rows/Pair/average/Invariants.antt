-- `settle::rows::Pair::average` meets its contract: no row passed keeps the average from ruling, and their sums are made.
use Rattle.settle.proofs.Reading.{Scanning}
use Rattle.settle.proofs.rows.Pair.average.Given as goal

abbrev pub invariant-loop-i : goal.invariant-loop-i
invariant-loop-i l = Scanning l.self.n l.self.interval.now l.self.correction.now l.i l.sums
