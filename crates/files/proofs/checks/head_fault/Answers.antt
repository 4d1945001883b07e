-- `files::checks::head_fault` meets its contract.
use Rattle.std.proofs.Common.{refl}
use Rattle.std.proofs.lemmas.Result.{err_from_is_err_and}
use Rattle.files.proofs.Told.{number-some}
use Rattle.files.proofs.Walked.{front-stops, front-there, length-wrong, length-right}
use Rattle.files.proofs.checks.head_fault.Goals as goal

pub returns-in_err-front_fault : goal.returns-in_err-front_fault
returns-in_err-front_fault c =
    let p = err_from_is_err_and c.from_residual.result c.from_residual.ensures.1 in
    rw (p.1, p.2) (front-stops _ _ c.in_err-front_fault.ensures (number-some _))

pub rows_from-requires : goal.rows_from-requires
rows_from-requires c = front-there _ _ c.in_ok-front_fault.ensures refl

pub row_count-requires : goal.row_count-requires
row_count-requires c = front-there _ _ c.in_ok-front_fault.ensures refl

pub returns-then-s-rows_from : goal.returns-then-s-rows_from
returns-then-s-rows_from c =
    length-wrong _ _ _ _ c.in_ok-front_fault.ensures refl c.rows_from.ensures.0 c.row_count.ensures.0 c.if-s-rows_from.true

pub returns : goal.returns
returns c =
    length-right _ _ _ _ c.in_ok-front_fault.ensures refl c.rows_from.ensures.0 c.row_count.ensures.0 c.if-s-rows_from.false
