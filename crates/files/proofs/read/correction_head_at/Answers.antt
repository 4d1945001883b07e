-- `files::read::correction_head_at` meets its contract: the fields read by the table.
use mathlib.Core.Path.{ap}
use Rattle.files.specs.Layout.{correction_head_at, correction_head_of}
use Rattle.files.proofs.read.correction_head_at.Goals as goal

pub returns : goal.returns
unfolding correction_head_at
returns c = ap correction_head_of c.record_of.ensures.0
