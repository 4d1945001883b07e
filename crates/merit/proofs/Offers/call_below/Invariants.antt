-- `merit::Offers::call_below` meets its contract: the positions passed are written, and the sum is theirs.
use lib.ListN.{length}
use Rattle.merit.specs.OneTier.{under}
use Rattle.merit.proofs.Steps.{Grouped}
use Rattle.merit.proofs.Offers.call_below.Given as goal

abbrev pub invariant-loop-i : goal.invariant-loop-i
invariant-loop-i l =
    Grouped (under l.self.widths.now l.self.bids.now l.k) (length l.self.widths.now) l.initial.called l.called l.sum.0 l.i
