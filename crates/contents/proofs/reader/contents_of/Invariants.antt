-- `contents::reader::contents_of` meets its contract: the rows passed are the file's, zero rows follow.
use Rattle.contents.proofs.Walk.{Filled}
use Rattle.contents.proofs.reader.contents_of.Given as goal

abbrev pub invariant-loop-i : goal.invariant-loop-i
invariant-loop-i l = Filled l.s l.start l.count l.rows l.i
