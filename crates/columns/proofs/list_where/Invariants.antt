-- `columns::list_where` meets its contract: of the positions passed those that pass the test stand in the list.
use Prim.Native.Nat.{ℕ, ◌≤◌}
use mathlib.Core.Bool.{Bool}
use lib.ListN.{length}
use Rattle.std.specs.Fn.{FnReturnsAt}
use Rattle.columns.specs.Lists.{Tells}
use Rattle.columns.proofs.Listed.{Listing}
use Rattle.columns.proofs.list_where.Given as goal

abbrev pub invariant-loop-i : goal.invariant-loop-i
invariant-loop-i g l =
    (l.m ≤ l.i) × ((test : ℕ → Bool) → Tells l.column (FnReturnsAt g.F.Fn l.passes) test → Listing (length l.column) test l.initial.list l.list l.m l.i)
