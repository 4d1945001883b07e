-- `statement::head_in` meets its contract: the front by its table, the tail by its own.
use Rattle.statement.proofs.Topped.{tail-room, head-told}
use lib.Dec.{lit<}
use borrow.Author.Rules.{rules}
use Rattle.statement.proofs.head_in.Goals as goal

pub record_of-requires-2 : goal.record_of-requires-2
record_of-requires-2 c = (lit< tt, (lit< tt, (search tail-room, search rules)))

pub returns : goal.returns
returns c = search head-told
