-- `duties::usual_duty` meets its contract: the baseline is limit and base.
use Rattle.duties.proofs.Averages.{by-loads}
use Rattle.duties.proofs.Parts.{low-base}
use borrow.Author.Rules.{rules}
use Rattle.duties.proofs.usual_duty.Goals as goal

pub duty_of-requires : goal.duty_of-requires
duty_of-requires c = (search rules, search (low-base, rules))

pub returns : goal.returns
returns c = search by-loads
