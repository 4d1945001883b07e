-- `merit::price` meets its contract: the top is the highest bid of those that deliver among the positions passed.
use Rattle.std.proofs.Common.{◌≡◌}
use Rattle.merit.proofs.Steps.{highest}
use Rattle.merit.proofs.price.Given as goal

abbrev pub invariant-loop-i : goal.invariant-loop-i
invariant-loop-i l = l.top ≡ highest l.bids l.called l.energies l.i
