-- `duties::credit1` meets its contract: the whole band unless the row owes for what it did not deliver.
use Rattle.duties.specs.Duty.{credit1}
use Rattle.duties.proofs.credit.credit1.Goals as goal

pub returns : goal.returns
unfolding credit1
returns c = cc
