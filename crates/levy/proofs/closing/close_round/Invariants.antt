-- `levy::close_round` meets its contract: the open payers passed are closed if the round closes them, the others listed, and both
-- sums are theirs.
use Rattle.levy.proofs.Turn.{Pass}
use Rattle.levy.proofs.closing.close_round.Given as goal

abbrev pub invariant-loop-j : goal.invariant-loop-j
invariant-loop-j l =
    Pass l.payers.weights.now l.payers.caps.now l.initial.marks l.balance.money.0 l.balance.weight l.balance.rounds l.initial.list l.marks
    l.list l.closed_caps l.closed_weights l.kept l.j
