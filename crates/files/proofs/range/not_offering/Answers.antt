-- `files::range::not_offering` meets its contract.
use Rattle.std.proofs.Common.{arith}
use Rattle.std.proofs.lemmas.Grind.{common_steps}
use Rattle.files.specs.Range.{not_offering, idle_tests}
use Rattle.files.proofs.range.not_offering.Goals as goal

pub returns : goal.returns
unfolding not_offering idle_tests
returns c = grind (arith, common_steps)
