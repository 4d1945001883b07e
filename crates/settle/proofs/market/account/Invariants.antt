-- `settle::market::account` meets its contract: the rows passed have both figures.
use Rattle.settle.proofs.Paying.{Sofar}
use Rattle.settle.proofs.market.account.Given as goal

abbrev pub invariant-loop-i : goal.invariant-loop-i
invariant-loop-i l = Sofar l.n l.price1.0 l.price2.0 l.initial.sheet l.sheet l.total.0 l.penalties.0 l.i
