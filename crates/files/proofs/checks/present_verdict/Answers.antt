-- `files::checks::present_verdict` meets its contract.
use Rattle.files.proofs.Told.{told-ok, told-err}
use Rattle.files.proofs.Walked.{start-told}
use Rattle.files.proofs.Named.{own-long, own-whole, correction-there, theirs-there, theirs-sound, bad-start, bad-row, good-rows}
use borrow.Author.Rules.{rules}
use Rattle.files.proofs.checks.present_verdict.Goals as goal

pub returns-then-not-correction_starts : goal.returns-then-not-correction_starts
returns-then-not-correction_starts c = rw c.from.ensures (search bad-start)

pub correction_count-m-requires : goal.correction_count-m-requires
correction_count-m-requires c = search correction-there

pub form_of-form-requires : goal.form_of-form-requires
form_of-form-requires c = (search own-long, search own-whole)

pub rows_verdict-requires : goal.rows_verdict-requires
rows_verdict-requires c = (search theirs-there, search rules)

pub beside_verdict-requires : goal.beside_verdict-requires
beside_verdict-requires c = record { own = (search rules, search start-told); theirs = search (theirs-sound, told-ok) }

pub returns-in-Err : goal.returns-in-Err
returns-in-Err c = search (bad-row, told-err)

pub returns-in-Ok : goal.returns-in-Ok
returns-in-Ok c = search (good-rows, told-ok)
