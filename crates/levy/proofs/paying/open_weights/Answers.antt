-- `levy::open_weights` meets its contract: the positions passed have their weight, or 0 if they closed.
use Rattle.levy.proofs.Fill.{open-end, fill-small}
use Rattle.levy.proofs.paying.open_weights.Goals as goal

pub returns : goal.returns
returns c = (search open-end, search fill-small)
