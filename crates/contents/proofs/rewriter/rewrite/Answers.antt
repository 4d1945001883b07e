-- `contents::rewriter::rewrite` meets its contract, return by return: no room, a file that is refused, and one that is written again.
use Prim.Native.Nat.{◌≤◌}
use native.Mathlib.Omega.{arith}
use Rattle.std.proofs.Common.{ap, sym, ◌∙◌}
use Rattle.files.specs.Verdict.{told}
use Rattle.contents.proofs.Again.{again-refused, again_kept, again-count, told-head, told-whole}
use Rattle.contents.proofs.Again.{again-short, again-left, again-room, again-bytes, again-done}
use Rattle.contents.proofs.rewriter.rewrite.Goals as goal

pub form_of-form-requires : goal.form_of-form-requires
form_of-form-requires c = (told-head _ _ c.interval_verdict.ensures _ (ap told c.in-Ok.is), told-whole _ _ c.interval_verdict.ensures _ (ap told c.in-Ok.is))

pub overflow_mul-needed : goal.overflow_mul-needed
overflow_mul-needed c = let few : c.in-Ok.n ≤ 256 = again-count _ _ c.interval_verdict.ensures _ (ap told c.in-Ok.is) in record { fits = omega arith }

pub overflow_add-needed : goal.overflow_add-needed
overflow_add-needed c = let few : c.in-Ok.n ≤ 256 = again-count _ _ c.interval_verdict.ensures _ (ap told c.in-Ok.is) in record { fits = omega arith }

pub returns-then-out-needed : goal.returns-then-out-needed
returns-then-out-needed c =
    let short = c.if-out-needed.true in
    record {
      value = rw c.from.ensures (again-short _ _ c.interval_verdict.ensures _ (ap told c.in-Ok.is) _ _ c.form_of-form.ensures c.start_of.ensures.0 _ short);
      out_after = again-left _ _ c.interval_verdict.ensures _ (ap told c.in-Ok.is) _ _ c.form_of-form.ensures c.start_of.ensures.0 _ short;
    }

pub file_again-requires : goal.file_again-requires
file_again-requires c =
    (sym c.interval_verdict.ensures ∙ ap told c.in-Ok.is, again-room _ _ c.interval_verdict.ensures _ (ap told c.in-Ok.is) _ _ c.form_of-form.ensures c.start_of.ensures.0 _ c.if-out-needed.false)

pub returns-in-Err : goal.returns-in-Err
returns-in-Err c =
    record {
      value = again-refused _ _ c.interval_verdict.ensures _ _ _ (ap told c.in-Err.is);
      out_after = again_kept _ _ c.interval_verdict.ensures _ _ _ (ap told c.in-Err.is);
    }

pub returns : goal.returns
returns c =
    let room = c.if-out-needed.false in
    record {
      value = again-bytes _ _ c.interval_verdict.ensures _ (ap told c.in-Ok.is) _ _ c.form_of-form.ensures c.start_of.ensures.0 _ room;
      out_after = again-done _ _ c.interval_verdict.ensures _ (ap told c.in-Ok.is) _ _ c.form_of-form.ensures c.start_of.ensures.0 _ _ room c.file_again.ensures;
    }
