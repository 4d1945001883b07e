-- `merit::Offers::parts_in` meets its contract: the bands of this bid can be shared among.
use Rattle.merit.proofs.Steps.{splittable}
use Rattle.merit.proofs.Offers.parts_in.Goals as goal

pub share-requires : goal.share-requires
share-requires c = search splittable
