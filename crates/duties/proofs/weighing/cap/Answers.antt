-- `duties::cap` meets its contract: the energy that counts at a unit's share of the tariff, twice of a farm.
use Rattle.duties.proofs.Parts.{cap-of, twice-fits}
use Rattle.duties.proofs.weighing.cap.Goals as goal

pub overflow_add-energy : goal.overflow_add-energy
overflow_add-energy c = search twice-fits

pub returns : goal.returns
returns c = search cap-of
