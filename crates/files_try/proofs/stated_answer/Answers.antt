-- `files_try::stated_answer` meets its contract.
use mathlib.Core.Path.{sym}
use lib.Seq.{length-take-le}
use lib.ListN.{length-set}
use Rattle.files_try.proofs.Figures.{stated-number}
use borrow.Author.Rules.{rules}
use Rattle.files_try.proofs.stated_answer.Goals as goal

pub slice_bounds-file-end : goal.slice_bounds-file-end
slice_bounds-file-end c = simp length-set (search rules)

pub slice_bounds-check-end : goal.slice_bounds-check-end
slice_bounds-check-end c = sym (length-take-le _ _ (simp length-set (search rules)))

pub returns : goal.returns
returns c = search stated-number
