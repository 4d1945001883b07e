-- `telling::tell_head` meets its contract.
use Rattle.telling.proofs.Printed.{head-stated, head_plain, head-room}
use lib.Dec.{lit<}
use borrow.Author.Rules.{rules}
use Rattle.telling.proofs.tell_head.Goals as goal

pub tell_record-requires : goal.tell_record-requires
tell_record-requires c = (lit< tt, ((search head-room, search rules, search rules), search rules))

pub returns-then-marked : goal.returns-then-marked
returns-then-marked c = search head-stated

pub returns : goal.returns
returns c = search head_plain
