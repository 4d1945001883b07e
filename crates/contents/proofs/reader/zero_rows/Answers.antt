-- `contents::reader::zero_rows` meets its contract.
use Rattle.columns.specs.Table.{table}
use Rattle.contents.proofs.reader.zero_rows.Goals as goal

pub returns : goal.returns
unfolding table
returns c = rw c.zero_row.ensures
