-- `share::line_of` meets its contract: enough remainders reach lo, too few reach hi, until the two are neighbours.
use Prim.Native.Nat.{◌-◌}
use Rattle.share.proofs.Serving.{Halved}
use Rattle.share.proofs.line_of.Given as goal

abbrev pub invariant-loop-hi : goal.invariant-loop-hi
invariant-loop-hi l = Halved l.rests l.left l.lo l.hi l.few

abbrev pub decreases-loop-hi : goal.decreases-loop-hi
decreases-loop-hi l = l.hi - l.lo
