-- `merit::Offers::margin` meets its contract: lower bids than lo do not pass the need and lower ones than hi do, until the two are neighbours.
use Prim.Native.Nat.{◌-◌}
use Rattle.merit.proofs.Steps.{Bracket}
use Rattle.merit.proofs.Offers.margin.Given as goal

abbrev pub invariant-loop-hi : goal.invariant-loop-hi
invariant-loop-hi l = Bracket l.need.0 l.self.widths.now l.self.bids.now l.lo.0 l.hi.0

abbrev pub decreases-loop-hi : goal.decreases-loop-hi
decreases-loop-hi l = l.hi.0 - l.lo.0
