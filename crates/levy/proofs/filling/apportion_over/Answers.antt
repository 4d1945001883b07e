-- `levy::filling::apportion_over` meets its contract: a share is at most its sum, so it fits.
use Rattle.levy.proofs.Making.{part-split, part-long, part_small}
use borrow.Author.Rules.{rules}
use Rattle.levy.proofs.filling.apportion_over.Goals as goal

pub split-requires : goal.split-requires
split-requires c = search (part-split, rules)

pub narrow-requires : goal.narrow-requires
narrow-requires c = search (part-long, part_small)
