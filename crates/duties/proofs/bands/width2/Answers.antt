-- `duties::width2` meets its contract: no width unless the row offers.
use Rattle.duties.specs.Duty.{width2}
use Rattle.duties.proofs.bands.width2.Goals as goal

pub returns : goal.returns
unfolding width2
returns c = cc
