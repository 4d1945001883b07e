-- `duties::energy1` meets its contract: nothing unless the row is paid for what it delivered.
use Rattle.duties.specs.Duty.{energy1}
use Rattle.duties.proofs.delivery.energy1.Goals as goal

pub returns : goal.returns
unfolding energy1
returns c = cc
