-- `duties::width1` meets its contract: no width unless the row offers.
use Rattle.duties.specs.Duty.{width1}
use Rattle.duties.proofs.bands.width1.Goals as goal

pub returns : goal.returns
unfolding width1
returns c = cc
