-- `files::range::head_ok` meets its contract.
use Rattle.std.proofs.Common.{arith}
use Rattle.std.proofs.lemmas.Grind.{common_steps}
use Rattle.files.specs.Range.{head_ok, head_tests}
use Rattle.files.proofs.range.head_ok.Goals as goal

pub returns : goal.returns
unfolding head_ok head_tests
returns c = grind (arith, common_steps)
