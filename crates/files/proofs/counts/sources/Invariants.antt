-- `files::counts::sources` meets its contract: the first i sources are put, and the rows passed in the correction lie below the next id.
use Rattle.files.proofs.Sourced.{Sourced}
use Rattle.files.proofs.counts.sources.Given as goal

abbrev pub invariant-loop-i : goal.invariant-loop-i
invariant-loop-i l = Sourced l.interval l.correction l.n l.m l.initial.out l.out l.i l.j
