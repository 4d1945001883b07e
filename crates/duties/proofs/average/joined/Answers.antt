-- `duties::joined` meets its contract: a row counts if it is thermal.
use Rattle.duties.proofs.Averages.{joined_of, joined-fits}
use Rattle.duties.proofs.average.joined.Goals as goal

pub add-energy-requires : goal.add-energy-requires
add-energy-requires c = search joined-fits

pub overflow_add-capacity : goal.overflow_add-capacity
overflow_add-capacity c = search joined-fits

pub returns : goal.returns
returns c = search joined_of
