-- `merit::Offers::margin` meets its contract: lower bids than lo do not pass the need and lower ones than hi do, until the two are neighbours.
use Rattle.std.proofs.Common.{◌<◌, arith}
use Rattle.std.proofs.lemmas.Grind.{common_steps}
use Rattle.merit.proofs.Steps.{bracket-none}
use Rattle.merit.proofs.Offers.margin.Goals as goal

pub loop-hi-init : goal.loop-hi-init
loop-hi-init c = let passed : c.args.need.0 < c.below.result.0 = grind (arith, common_steps) in search bracket-none
