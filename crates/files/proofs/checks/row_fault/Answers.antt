-- `files::checks::row_fault` meets its contract.
use Rattle.columns.proofs.Choice.{checks}
use Rattle.files.specs.Order.{row_checks_at}
use Rattle.files.proofs.Walked.{checks-told}
use Rattle.files.proofs.checks.row_fault.Goals as goal

pub returns-then-not-marked : goal.returns-then-not-marked
unfolding row_checks_at
returns-then-not-marked c = search checks depth 12

pub returns : goal.returns
unfolding row_checks_at
returns c = search (checks, checks-told) depth 12
