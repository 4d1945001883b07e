-- `contents::writer::rows_verdict` meets its contract: the rows passed have no fault, the last id is at hand.
use Rattle.contents.proofs.Walk.{Checked}
use Rattle.contents.proofs.writer.rows_verdict.Given as goal

abbrev pub invariant-loop-i : goal.invariant-loop-i
invariant-loop-i l = Checked l.contents l.last l.i
