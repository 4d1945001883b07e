-- `merit::Group::call_one` meets its contract: the bands passed are called for all that is left.
use Rattle.columns.proofs.Fill.{Reached}
use Rattle.merit.specs.Walk.{alone}
use Rattle.merit.proofs.Group.call_one.Given as goal

abbrev pub invariant-loop-i : goal.invariant-loop-i
invariant-loop-i l = Reached 0 (alone l.left.0 l.self.widths.now) l.initial.out l.out l.i
