-- `share::at_turn` meets its contract: turns go on from `first` and, past the column's end, from its front.
use Rattle.share.proofs.Serving.{turned_on, turned_round}
use borrow.Author.Rules.{rules}
use Rattle.share.proofs.at_turn.Goals as goal

pub returns-then-n-i : goal.returns-then-n-i
returns-then-n-i c = (search rules, search turned_round)

pub returns-else-n-i : goal.returns-else-n-i
returns-else-n-i c = (search rules, search turned_on)
