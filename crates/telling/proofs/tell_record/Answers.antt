-- `telling::tell_record` meets its contract.
use Rattle.telling.proofs.Printed.{record-placed}
use Rattle.telling.proofs.tell_record.Goals as goal

pub returns : goal.returns
returns g c = search record-placed
