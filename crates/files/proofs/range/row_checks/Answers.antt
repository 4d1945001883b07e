-- `files::range::row_checks` meets its contract.
use Rattle.columns.proofs.Choice.{checks}
use Rattle.files.specs.Order.{row_checks}
use Rattle.files.proofs.range.row_checks.Goals as goal

pub returns-then-not-row_ok : goal.returns-then-not-row_ok
unfolding row_checks
returns-then-not-row_ok c = search checks depth 12

pub returns-then-r-last : goal.returns-then-r-last
unfolding row_checks
returns-then-r-last c = search checks depth 12

pub returns : goal.returns
unfolding row_checks
returns c = search checks depth 12
