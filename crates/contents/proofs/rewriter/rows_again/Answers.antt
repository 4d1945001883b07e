-- `contents::rewriter::rows_again` meets its contract: the rows passed stand in the buffer, nothing else has changed.
use mathlib.Core.Path.{refl}
use Rattle.contents.proofs.Walk.{place-start}
use Rattle.contents.proofs.Again.{again-next, again-rows}
use borrow.Author.Rules.{rules}
use Rattle.contents.proofs.rewriter.rows_again.Goals as goal

pub loop-i-init : goal.loop-i-init
loop-i-init c = place-start _ _ _ _ (λ k. refl)

pub loop-i-preserved : goal.loop-i-preserved
loop-i-preserved c =
    again-next _ _ _ _ _ _ _ _ (search rules) c.loop-i.invariant (search rules) (search rules) c.row_at.ensures c.put_row.ensures

pub returns : goal.returns
returns c = search again-rows
