-- `files::range::status_ok` meets its contract.
use Rattle.files.specs.Range.{status_ok}
use Rattle.files.proofs.range.status_ok.Goals as goal

pub returns : goal.returns
unfolding status_ok
returns c = cc
