-- `merit::price` meets its contract: the top is the highest bid of those that deliver among the positions passed.
use Rattle.merit.proofs.Steps.{highest-none, highest-more, highest-all}
use Rattle.merit.proofs.price.Goals as goal

pub loop-i-init : goal.loop-i-init
loop-i-init c = search highest-none

pub loop-i-preserved : goal.loop-i-preserved
loop-i-preserved c = search highest-more

pub returns : goal.returns
returns c = search highest-all
