-- `files::checks::interval_verdict` meets its contract.
use Rattle.std.proofs.Common.{refl}
use Rattle.std.proofs.lemmas.Result.{err_from_is_err_and}
use Rattle.files.proofs.Told.{number-some}
use Rattle.files.proofs.Walked.{head-there, form-there, rows-there, interval-refused, interval-rows}
use borrow.Author.Rules.{rules}
use Rattle.files.proofs.checks.interval_verdict.Goals as goal

pub returns-in_err-head_fault : goal.returns-in_err-head_fault
returns-in_err-head_fault c =
    let p = err_from_is_err_and c.from_residual.result c.from_residual.ensures.1 in
    rw (p.1, p.2) (interval-refused _ _ c.in_err-head_fault.ensures (number-some _))

pub form_of-form-requires : goal.form_of-form-requires
form_of-form-requires c = (head-there _ _ c.in_ok-head_fault.ensures refl, form-there _ _ c.in_ok-head_fault.ensures refl)

pub row_count-requires : goal.row_count-requires
row_count-requires c = head-there _ _ c.in_ok-head_fault.ensures refl

pub rows_verdict-requires : goal.rows_verdict-requires
rows_verdict-requires c =
    (rows-there _ _ c.in_ok-head_fault.ensures refl _ _ _ c.form_of-form.ensures c.start_of.ensures.0 c.row_count.ensures.0, search rules)

pub returns : goal.returns
returns c =
    interval-rows _ _ c.in_ok-head_fault.ensures refl _ _ _ _ c.form_of-form.ensures c.start_of.ensures.0 c.row_count.ensures.0
    c.rows_verdict.ensures
