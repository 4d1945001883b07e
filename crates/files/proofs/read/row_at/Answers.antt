-- `files::read::row_at` meets its contract: the fields read by the table.
use mathlib.Core.Path.{ap}
use Rattle.files.specs.Layout.{row_at, row_of}
use Rattle.files.proofs.read.row_at.Goals as goal

pub returns : goal.returns
unfolding row_at
returns c = ap row_of c.record_of.ensures.0
