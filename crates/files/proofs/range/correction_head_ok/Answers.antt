-- `files::range::correction_head_ok` meets its contract.
use Rattle.files.specs.Range.{correction_head_ok, correction_tests}
use Rattle.files.proofs.range.correction_head_ok.Goals as goal

pub returns : goal.returns
unfolding correction_head_ok correction_tests
returns c = cc
