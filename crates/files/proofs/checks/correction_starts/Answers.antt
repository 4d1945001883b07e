-- `files::checks::correction_starts` meets its contract.
use Rattle.files.proofs.Named.{starts-short, starts-told}
use Rattle.files.proofs.checks.correction_starts.Goals as goal

pub returns-then-k-lt-CORRECTION_HEAD : goal.returns-then-k-lt-CORRECTION_HEAD
returns-then-k-lt-CORRECTION_HEAD c = search starts-short

pub returns : goal.returns
returns c = search starts-told
