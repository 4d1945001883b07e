-- `settle::rows::put_duty` meets its contract: the fields of the record are the duties.
use Rattle.settle.proofs.Reading.{duty-put}
use Rattle.settle.proofs.rows.put_duty.Goals as goal

pub returns : goal.returns
returns c = search duty-put
