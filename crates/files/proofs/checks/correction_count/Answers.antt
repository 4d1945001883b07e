-- `files::checks::correction_count` meets its contract.
use mathlib.Core.Path.{ap}
use Rattle.files.specs.declared.CorrectionHead.{CorrectionHead}
use borrow.Author.Rules.{rules}
use Rattle.files.proofs.checks.correction_count.Goals as goal

pub returns : goal.returns
returns c = rw c.from.ensures (ap (λ (h : CorrectionHead). h.rows) c.correction_head_at.ensures, search rules)
