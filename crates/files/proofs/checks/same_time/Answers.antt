-- `files::checks::same_time` meets its contract.
use Rattle.files.specs.Order.{same_time}
use Rattle.files.proofs.checks.same_time.Goals as goal

pub returns : goal.returns
unfolding same_time
returns c = cc
