-- `duties::weighing::counted` meets its contract: the meter of a payer, else 0.
use Rattle.duties.proofs.weighing.counted.Goals as goal

pub returns : goal.returns
returns c = cc
