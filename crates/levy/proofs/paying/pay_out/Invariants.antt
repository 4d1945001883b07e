-- `levy::pay_out` meets its contract: the positions passed have what they pay, the others their caps.
use Rattle.levy.specs.Asked.{paid_from}
use Rattle.levy.proofs.Fill.{Fill}
use Rattle.levy.proofs.paying.pay_out.Given as goal

abbrev pub invariant-loop-i : goal.invariant-loop-i
invariant-loop-i l = Fill (paid_from l.initial.caps l.marks l.parts) l.initial.caps l.caps l.i
