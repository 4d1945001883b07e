-- `merit::Offers::group_of` meets its contract: the positions passed are written, and sum and number are theirs.
use lib.ListN.{length}
use Rattle.merit.specs.OneTier.{equal}
use Rattle.merit.proofs.Steps.{Banded}
use Rattle.merit.proofs.Offers.group_of.Given as goal

abbrev pub invariant-loop-i : goal.invariant-loop-i
invariant-loop-i l =
    Banded (equal l.self.widths.now l.self.bids.now l.k) (length l.self.widths.now) l.initial.room l.room l.sum.0 l.bands l.i
