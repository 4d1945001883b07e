-- `files::checks::row_count` meets its contract.
use mathlib.Core.Path.{ap}
use Rattle.files.specs.declared.Head.{Head}
use borrow.Author.Rules.{rules}
use Rattle.files.proofs.checks.row_count.Goals as goal

pub returns : goal.returns
returns c = rw c.from.ensures (ap (λ (h : Head). h.rows) c.head_at.ensures, search rules)
