-- `files::checks::rows_verdict` meets its contract: the rows before i refuse nothing, and `last` is the id before row i.
use Prim.Native.Nat.{◌+◌, ◌*◌, ◌≤◌}
use mathlib.Core.Path.{refl}
use lib.ListN.{length}
use Rattle.files.specs.Layout.{row_size}
use Rattle.files.proofs.Told.{number-some}
use Rattle.files.proofs.Walked.{walk-in, walk_none, walk-next, walk-stops, walk_ends}
use borrow.Author.Rules.{rules}
use Rattle.files.proofs.checks.rows_verdict.Goals as goal

pub loop-i-init : goal.loop-i-init
loop-i-init c = search walk_none

pub overflow_mul-at : goal.overflow_mul-at
overflow_mul-at c =
    let a = c.args in
    let l : a.start + c.loop-i.i * a.size + row_size ≤ length a.s.now = search walk-in in
    search rules

pub overflow_add-at : goal.overflow_add-at
overflow_add-at c =
    let a = c.args in
    let l : a.start + c.loop-i.i * a.size + row_size ≤ length a.s.now = search walk-in in
    search rules

pub row_fault-requires : goal.row_fault-requires
row_fault-requires c = search walk-in

pub returns-in-Err : goal.returns-in-Err
returns-in-Err c = walk-stops _ _ _ _ _ _ _ _ c.loop-i.invariant c.loop-i-test.true c.in-Err.ensures (number-some _)

pub id_at-last-requires : goal.id_at-last-requires
id_at-last-requires c = search walk-in

pub loop-i-preserved : goal.loop-i-preserved
loop-i-preserved c =
    walk-next _ _ _ _ _ _ _ _ c.loop-i.invariant c.loop-i-test.true c.in_default.ensures _ refl c.id_at-last.ensures

pub returns : goal.returns
returns c = search walk_ends
