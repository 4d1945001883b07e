-- `merit::Offers::walk` meets its contract: what was called so far is what the definition calls below this bid.
use Rattle.std.proofs.Common.{◌≡◌, ◌+◌, ◌-◌, length}
use Rattle.merit.specs.OneTier.{below}
use Rattle.merit.specs.Walk.{past}
use Rattle.merit.proofs.Walking.{Walked, Turned}
use Rattle.merit.proofs.Offers.walk.Given as goal

abbrev pub invariant-loop-i : goal.invariant-loop-i
invariant-loop-i l = Turned l.initial.left.0 l.initial.called l.part-items l.i l.left.0 l.called

abbrev pub invariant-walk : goal.invariant-walk
invariant-walk l =
    Walked (l.initial.left.0 + below l.self.widths.now l.self.bids.now l.initial.bid.0) l.self.widths.now l.self.bids.now l.first l.bid.0 l.left.0
    l.called
    × (length l.group ≡ length l.self.widths.now) × (length l.parts ≡ length l.self.widths.now)

abbrev pub decreases-walk : goal.decreases-walk
decreases-walk l = past - l.bid.0
