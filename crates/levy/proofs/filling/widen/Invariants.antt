-- `levy::widen` meets its contract: the positions passed are copied.
use Rattle.columns.specs.Table.{at}
use Rattle.levy.proofs.Fill.{Fill}
use Rattle.levy.proofs.filling.widen.Given as goal

abbrev pub invariant-loop-i : goal.invariant-loop-i
invariant-loop-i l = Fill (at l.from) l.initial.to l.to l.i
