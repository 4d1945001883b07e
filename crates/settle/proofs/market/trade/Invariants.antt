-- `settle::market::trade` meets its contract: tier 1, then tier 2 with what is left of the need.
use Rattle.settle.proofs.Trading.{Sofar}
use Rattle.settle.proofs.market.trade.Given as goal

abbrev pub invariant-loop-tier : goal.invariant-loop-tier
invariant-loop-tier l = Sofar l.fn.need.0 l.first l.n l.initial.sheet l.tier-index l.sheet l.left l.before l.price
