-- `contents::writer::answer_for` meets its contract, return by return: 3, 14, then 6 and 7, then 11, then none.
use Prim.Native.Nat.{◌≤◌}
use native.Mathlib.Omega.{arith}
use Rattle.std.proofs.Common.{refl}
use Rattle.std.proofs.lemmas.Result.{err_from_is_err_and}
use Rattle.contents.proofs.Answered.{rows-few-told, count-few, answer-3, answer-14, answer-6-7, answer-11, answer-0}
use Rattle.contents.proofs.writer.answer_for.Goals as goal

pub returns-then-not-head_ok : goal.returns-then-not-head_ok
returns-then-not-head_ok c = rw c.from.ensures (search answer-3)

pub returns-then-not-terms_ok : goal.returns-then-not-terms_ok
returns-then-not-terms_ok c = rw c.from-then-not-terms_ok.ensures (search answer-14)

pub rows_verdict-requires : goal.rows_verdict-requires
rows_verdict-requires c = search rows-few-told

few : (c : goal.After-start_of) → c.in_ok-count.count ≤ 256
few c =
    count-few c.args.contents _ c.head_ok.ensures c.if-not-head_ok.false _ c.ruling.ensures _ c.terms_ok.ensures c.if-not-terms_ok.false
    _ c.in_ok-count.ensures _ refl

pub overflow_mul-needed : goal.overflow_mul-needed
overflow_mul-needed c = let l = few c in record { fits = omega arith }

pub overflow_add-needed : goal.overflow_add-needed
overflow_add-needed c = let l = few c in record { fits = omega arith }

pub returns-then-room-needed : goal.returns-then-room-needed
returns-then-room-needed c =
    rw c.from-then-room-needed.ensures
    (answer-11 c.args.contents _ c.head_ok.ensures c.if-not-head_ok.false _ c.ruling.ensures _ c.terms_ok.ensures c.if-not-terms_ok.false
    _ c.in_ok-count.ensures _ refl _ c.start_of.ensures.0 _ c.if-room-needed.true)

pub returns-in_err-count : goal.returns-in_err-count
returns-in_err-count c =
    let p = err_from_is_err_and c.from_residual.result c.from_residual.ensures.1 in
    rw (p.1, p.2)
    (answer-6-7 c.args.contents _ c.head_ok.ensures c.if-not-head_ok.false _ c.ruling.ensures _ c.terms_ok.ensures c.if-not-terms_ok.false
    _ c.in_err-count.ensures _ _ _ refl)

pub returns : goal.returns
returns c =
    answer-0 c.args.contents _ c.head_ok.ensures c.if-not-head_ok.false _ c.ruling.ensures _ c.terms_ok.ensures c.if-not-terms_ok.false
    _ c.in_ok-count.ensures _ refl _ c.start_of.ensures.0 _ c.if-room-needed.false
