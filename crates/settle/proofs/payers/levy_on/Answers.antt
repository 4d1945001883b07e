-- `settle::payers::levy_on` meets its contract: the payments are those of the standing that the rounds left.
use Rattle.settle.proofs.Levying.{payments-asked, levied-on}
use Rattle.settle.proofs.payers.levy_on.Goals as goal

pub payments-requires : goal.payments-requires
payments-requires c = search payments-asked

pub returns : goal.returns
returns c = search levied-on
