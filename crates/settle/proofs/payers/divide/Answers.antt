-- `settle::payers::divide` meets its contract: one sharing after the other.
use Rattle.settle.proofs.Levying.{sharings-are, divided-none, divided-asked, divided-more, divided-all}
use Rattle.settle.proofs.payers.divide.Goals as goal

pub loop-part-init : goal.loop-part-init
loop-part-init c = search divided-none

pub share_out-requires : goal.share_out-requires
share_out-requires c = search (divided-asked, sharings-are)

pub loop-part-preserved : goal.loop-part-preserved
loop-part-preserved c = search (divided-more, sharings-are)

pub returns : goal.returns
returns c = search divided-all
