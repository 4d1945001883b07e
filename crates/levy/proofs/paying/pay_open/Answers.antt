-- `levy::pay_open` meets its contract: the parts are the sharing of the last money over the open weights.
use Rattle.levy.proofs.Making.{spread-split}
use Rattle.levy.proofs.paying.pay_open.Goals as goal

pub split-requires : goal.split-requires
split-requires c = search spread-split
