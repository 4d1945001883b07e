-- `files::counts::source_at` meets its contract.
use Prim.Native.Nat.{◌<◌}
use Rattle.columns.proofs.Choice.{checks}
use Rattle.files.proofs.Sourced.{has-told}
use borrow.Author.Rules.{rules}
use Rattle.files.proofs.counts.source_at.Goals as goal

pub returns-then-not-has : goal.returns-then-not-has
returns-then-not-has c = search checks

pub overflow_add-result : goal.overflow_add-result
overflow_add-result c = let l : c.args.j < c.args.theirs.now.count = search has-told in search rules

pub overflow_cast-result : goal.overflow_cast-result
overflow_cast-result c = let l : c.args.j < c.args.theirs.now.count = search has-told in search rules

pub returns : goal.returns
returns c = search checks
