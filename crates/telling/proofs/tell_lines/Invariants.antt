-- `telling::tell_lines` meets its contract.
use mathlib.Core.Path.{◌≡◌}
use Prim.Native.Nat.{◌*◌, ◌≤◌}
use lib.ListN.{length}
use Rattle.telling.specs.Text.{lines_to, line_most, Placed}
use Rattle.telling.proofs.tell_lines.Given as goal

abbrev pub invariant-loop-i : goal.invariant-loop-i
invariant-loop-i l =
    (l.i ≤ l.n) × (length l.text ≡ length l.initial.text) × Placed l.initial.text l.text l.from (lines_to l.i l.statement) l.at (l.i * line_most)
