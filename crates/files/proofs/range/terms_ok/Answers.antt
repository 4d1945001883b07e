-- `files::range::terms_ok` meets its contract.
use Rattle.std.proofs.Common.{arith}
use Rattle.std.proofs.lemmas.Grind.{common_steps}
use Rattle.files.specs.Range.{terms_ok, terms_tests}
use Rattle.files.proofs.range.terms_ok.Goals as goal

pub returns : goal.returns
unfolding terms_ok terms_tests
returns c = grind (arith, common_steps)
