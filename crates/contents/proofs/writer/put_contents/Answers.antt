-- `contents::writer::put_contents` meets its contract: the rows, then the head in front of them.
use Rattle.contents.proofs.Answered.{rows-then-head}
use Rattle.contents.proofs.writer.put_contents.Goals as goal

pub returns : goal.returns
returns c = search rows-then-head
