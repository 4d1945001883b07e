-- `settle::payers::divide` meets its contract: one sharing after the other.
use Rattle.std.proofs.Common.{◌≡◌}
use Rattle.settle.specs.Work.{divided_to}
use Rattle.settle.proofs.payers.divide.Given as goal

abbrev pub invariant-loop-part : goal.invariant-loop-part
invariant-loop-part l = l.sheet ≡ divided_to l.part-index l.n l.first l.fn.left l.initial.sheet
