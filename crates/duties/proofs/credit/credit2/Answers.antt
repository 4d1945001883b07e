-- `duties::credit2` meets its contract: the whole band unless the row owes for what it did not deliver.
use Rattle.duties.specs.Duty.{credit2}
use Rattle.duties.proofs.credit.credit2.Goals as goal

pub returns : goal.returns
unfolding credit2
returns c = cc
