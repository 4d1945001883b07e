-- `files::range::row_ok` meets its contract.
use Rattle.std.proofs.Common.{arith}
use Rattle.std.proofs.lemmas.Grind.{common_steps}
use Rattle.files.specs.Range.{row_ok, row_tests}
use Rattle.files.proofs.range.row_ok.Goals as goal

pub returns : goal.returns
unfolding row_ok row_tests
returns c = grind (arith, common_steps)
