-- `levy::widen` meets its contract: the positions passed are copied.
use Rattle.levy.proofs.Fill.{fill_is, fill-small}
use Rattle.levy.proofs.filling.widen.Goals as goal

pub returns : goal.returns
returns c = search (fill_is, fill-small)
