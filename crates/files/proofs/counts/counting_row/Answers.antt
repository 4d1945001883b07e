-- `files::counts::counting_row` meets its contract: the row is read from the bytes that count.
use Rattle.files.proofs.counts.counting_row.Goals as goal

pub returns : goal.returns
returns c = cc
