-- `files::range::offering` meets its contract.
use Rattle.std.proofs.Common.{arith}
use Rattle.std.proofs.lemmas.Grind.{common_steps}
use Rattle.files.specs.Range.{offering, offer_tests}
use Rattle.files.proofs.range.offering.Goals as goal

pub returns : goal.returns
unfolding offering offer_tests
returns c = grind (arith, common_steps)
