-- `files::checks::names_verdict` meets its contract: the correction's rows before j refuse nothing, and the rows passed in the
-- interval lie below its next id.
use Rattle.files.proofs.Named.{Beside}
use Rattle.files.proofs.checks.names_verdict.Given as goal

abbrev pub invariant-loop-j : goal.invariant-loop-j
invariant-loop-j l = Beside l.interval l.correction l.start l.n l.m l.i l.j
