-- `files::counts::named_rows` meets its contract.
use Rattle.files.proofs.Sourced.{none-there}
use Rattle.files.proofs.counts.named_rows.Goals as goal

pub returns-then-k-lt-CORRECTION_HEAD : goal.returns-then-k-lt-CORRECTION_HEAD
returns-then-k-lt-CORRECTION_HEAD c = search none-there
