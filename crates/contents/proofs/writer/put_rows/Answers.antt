-- `contents::writer::put_rows` meets its contract: the rows passed stand in the buffer, nothing else has changed.
use mathlib.Core.Path.{refl}
use Rattle.contents.proofs.Walk.{place-start, held_next, held-ends}
use Rattle.contents.proofs.writer.put_rows.Goals as goal

pub loop-i-init : goal.loop-i-init
loop-i-init c = place-start _ _ _ _ (λ k. refl)

pub loop-i-preserved : goal.loop-i-preserved
loop-i-preserved c = search held_next

pub returns : goal.returns
returns c = search held-ends
