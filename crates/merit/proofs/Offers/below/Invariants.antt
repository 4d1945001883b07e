-- `merit::Offers::below` meets its contract: the sum is that of the rows passed.
use Rattle.std.proofs.Common.{length}
use Rattle.std.specs.Iterator.Adapters.{zip_first, zip_second}
use Rattle.std.specs.Slice.Iter.{iter_rest}
use Rattle.merit.specs.OneTier.{under}
use Rattle.merit.proofs.Steps.{Summed, Paired}
use Rattle.merit.proofs.Offers.below.Given as goal

abbrev pub invariant-loop-width : goal.invariant-loop-width
invariant-loop-width l =
    Summed (under l.self.widths.now l.self.bids.now l.k) (length l.self.widths.now) l.sum.0 (length l.yielded)
    × Paired l.self.widths.now l.self.bids.now (length l.yielded) (iter_rest (zip_first l.width-iterator)) (iter_rest (zip_second l.width-iterator))
