-- `contents::writer::put_row` meets its contract: the row's fields by its table.
use Rattle.contents.proofs.writer.put_row.Goals as goal

pub returns : goal.returns
returns c = cc
