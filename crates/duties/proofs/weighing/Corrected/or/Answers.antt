-- `duties::weighing::Corrected::or` meets its contract: one of the two is 0.
use Rattle.units.proofs.Chosen.{chosen, chosen-fits}
use Rattle.duties.proofs.weighing.Corrected.or.Goals as goal

pub overflow_add-result : goal.overflow_add-result
overflow_add-result c = search chosen-fits

pub returns : goal.returns
returns c = search chosen
