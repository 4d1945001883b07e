-- `files::checks::alike` meets its contract.
use Rattle.std.proofs.Common.{arith}
use Rattle.std.proofs.lemmas.Grind.{common_steps}
use Rattle.files.specs.Order.{alike}
use Rattle.files.proofs.checks.alike.Goals as goal

pub returns : goal.returns
unfolding alike
returns c = grind (arith, common_steps)
