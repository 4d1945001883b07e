-- `files::read::id_at` meets its contract.
use Rattle.records.specs.Record.{fields_at, record_at}
use Rattle.files.specs.Layout.{row_at}
use Rattle.std.proofs.lemmas.Grind.{common_steps}
use native.Mathlib.Omega.{arith}
use Rattle.files.proofs.read.id_at.Goals as goal

pub returns : goal.returns
unfolding row_at record_at fields_at
returns c = grind (arith, common_steps)
