-- `levy::count_visits` meets its contract: the sum is that of the positions passed.
use Rattle.std.proofs.Common.{length}
use Rattle.levy.proofs.Told.{Told}
use Rattle.levy.proofs.visiting.count_visits.Given as goal

abbrev pub invariant-loop-weight : goal.invariant-loop-weight
invariant-loop-weight l = Told l.weights l.marks l.rounds l.visits (length l.yielded)
