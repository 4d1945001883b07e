-- `contents::writer::rows_verdict` meets its contract: the rows passed have no fault, the last id is at hand.
use Rattle.std.proofs.Common.{refl}
use Rattle.files.proofs.Told.{number-some}
use Rattle.contents.proofs.Walk.{check-start, check-next, check-stops, check-ends}
use Rattle.contents.proofs.writer.rows_verdict.Goals as goal

pub loop-i-init : goal.loop-i-init
loop-i-init c = search check-start

pub returns-in-Err : goal.returns-in-Err
returns-in-Err c = check-stops _ _ _ _ _ c.loop-i.invariant c.loop-i-test.true c.ruling-terms.ensures c.in-Err.ensures (number-some _)

pub loop-i-preserved : goal.loop-i-preserved
loop-i-preserved c = check-next _ _ _ _ _ c.loop-i.invariant c.loop-i-test.true c.ruling-terms.ensures c.in_default.ensures refl

pub returns : goal.returns
returns c = search check-ends
