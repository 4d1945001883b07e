-- `contents::writer::put_rows` meets its contract: the rows passed stand in the buffer, nothing else has changed.
use Rattle.contents.specs.Content.{fields_in}
use Rattle.contents.proofs.Walk.{Placed}
use Rattle.contents.proofs.writer.put_rows.Given as goal

abbrev pub invariant-loop-i : goal.invariant-loop-i
invariant-loop-i l = Placed l.initial.out l.start (fields_in l.contents.rows) l.contents.head.rows l.out l.i
