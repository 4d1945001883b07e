-- `telling::tell_fields` meets its contract.
use mathlib.Core.Path.{◌≡◌}
use Prim.Native.Nat.{◌*◌, ◌≤◌}
use lib.ListN.{length}
use Rattle.telling.specs.Text.{text_to, number_most, Placed}
use Rattle.telling.proofs.tell_fields.Given as goal

abbrev pub invariant-loop-i : goal.invariant-loop-i
invariant-loop-i l = (l.i ≤ length l.fields) × (length l.text ≡ length l.initial.text) × Placed l.initial.text l.text l.from (text_to l.i l.fields) l.at (l.i * number_most)
