-- `duties::energy2` meets its contract: nothing unless the row is paid for what it delivered.
use Rattle.duties.specs.Duty.{energy2}
use Rattle.duties.proofs.delivery.energy2.Goals as goal

pub returns : goal.returns
unfolding energy2
returns c = cc
