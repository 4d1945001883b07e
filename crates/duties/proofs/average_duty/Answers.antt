-- `duties::average_duty` meets its contract: the average is the base.
use Rattle.duties.proofs.Averages.{by-loads, low_load}
use borrow.Author.Rules.{rules}
use Rattle.duties.proofs.average_duty.Goals as goal

pub duty_of-requires : goal.duty_of-requires
duty_of-requires c = (search rules, search low_load)

pub returns : goal.returns
returns c = search by-loads
