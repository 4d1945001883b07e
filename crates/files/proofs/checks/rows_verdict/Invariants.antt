-- `files::checks::rows_verdict` meets its contract: the rows before i refuse nothing, and `last` is the id before row i.
use Rattle.files.proofs.Walked.{Walked}
use Rattle.files.proofs.checks.rows_verdict.Given as goal

abbrev pub invariant-loop-i : goal.invariant-loop-i
invariant-loop-i l = Walked l.terms l.s l.start l.size l.count l.last l.i
