-- `files::checks::matches_row` meets its contract.
use borrow.Author.Tests.{le-ltb, lt-ltb}
use Rattle.files.proofs.checks.matches_row.Goals as goal

pub returns-else-i-own : goal.returns-else-i-own
returns-else-i-own c = rw (le-ltb _ _ c.if-i-own.false)

pub returns-then-i-own : goal.returns-then-i-own
returns-then-i-own c = rw (lt-ltb _ _ c.if-i-own.true, ← c.row.ensures) c.alike.ensures
