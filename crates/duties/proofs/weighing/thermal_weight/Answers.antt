-- `duties::thermal_weight` meets its contract: what lies above each load counts once more.
use Rattle.duties.proofs.Parts.{steps}
use Rattle.duties.proofs.weighing.thermal_weight.Goals as goal

pub returns : goal.returns
returns c = search steps
