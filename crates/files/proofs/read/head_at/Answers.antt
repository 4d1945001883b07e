-- `files::read::head_at` meets its contract: the fields read by the table.
use mathlib.Core.Path.{ap}
use Rattle.files.specs.Layout.{head_at, head_of}
use Rattle.files.proofs.read.head_at.Goals as goal

pub returns : goal.returns
unfolding head_at
returns c = ap head_of c.record_of.ensures.0
