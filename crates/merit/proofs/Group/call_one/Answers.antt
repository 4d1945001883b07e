-- `merit::Group::call_one` meets its contract: the bands passed are called for all that is left.
use Rattle.columns.proofs.Fill.{reached-none}
use Rattle.merit.proofs.Steps.{alone-next, alone-all}
use Rattle.merit.proofs.Group.call_one.Goals as goal

pub loop-i-init : goal.loop-i-init
loop-i-init c = search reached-none

pub loop-i-preserved : goal.loop-i-preserved
loop-i-preserved c = search alone-next

pub returns : goal.returns
returns c = search alone-all
