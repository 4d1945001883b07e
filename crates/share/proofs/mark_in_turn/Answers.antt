-- `share::mark_in_turn` meets its contract: whoever has had its turn is marked.
use Rattle.share.proofs.Serving.{handed-none, met-fits, handed-next, handed-all}
use Rattle.share.proofs.mark_in_turn.Goals as goal

pub loop-t-init : goal.loop-t-init
loop-t-init c = search handed-none

pub overflow_add-met : goal.overflow_add-met
overflow_add-met c = record { fits = search met-fits }

pub loop-t-preserved : goal.loop-t-preserved
loop-t-preserved c = search handed-next

pub returns : goal.returns
returns c = search handed-all
