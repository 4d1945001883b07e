-- `contents::rewriter::rows_again` meets its contract: the rows passed stand in the buffer, nothing else has changed.
use Rattle.contents.specs.Content.{fields_from}
use Rattle.contents.proofs.Walk.{Placed}
use Rattle.contents.proofs.rewriter.rows_again.Given as goal

abbrev pub invariant-loop-i : goal.invariant-loop-i
invariant-loop-i l = Placed l.initial.out l.start (fields_from l.s) l.n l.out l.i
