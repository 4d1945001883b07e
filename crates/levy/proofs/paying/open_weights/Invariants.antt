-- `levy::open_weights` meets its contract: the positions passed have their weight, or 0 if they closed.
use Rattle.levy.proofs.Fill.{Fill, open_at}
use Rattle.levy.proofs.paying.open_weights.Given as goal

abbrev pub invariant-loop-i : goal.invariant-loop-i
invariant-loop-i l = Fill (open_at l.weights l.marks) l.initial.still l.still l.i
