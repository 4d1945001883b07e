-- `records::put_column` meets its contract: the cells before record i hold the column's numbers.
use Rattle.records.proofs.Column.{filled_none, filled-room, filled_next, filled-all}
use Rattle.records.proofs.cells.put_column.Goals as goal

pub loop-i-init : goal.loop-i-init
loop-i-init c = search filled_none

pub put_cell-requires : goal.put_cell-requires
put_cell-requires c = search filled-room

pub loop-i-preserved : goal.loop-i-preserved
loop-i-preserved c = search filled_next

pub returns : goal.returns
returns c = search filled-all
