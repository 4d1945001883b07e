-- `settle::payers::share_in` meets its contract: the amount shared over the column of a field.
use Rattle.settle.proofs.Levying.{shares-asked, shares-lined, shares_left}
use Rattle.settle.proofs.payers.share_in.Goals as goal

pub apportion-requires : goal.apportion-requires
apportion-requires c = search shares-asked

pub put_column-requires : goal.put_column-requires
put_column-requires c = search shares-lined

pub returns : goal.returns
returns c = search shares_left
