-- `files::checks::front_fault` meets its contract.
use Rattle.columns.proofs.Choice.{checks}
use Rattle.files.specs.Order.{front_checks}
use Rattle.files.proofs.Walked.{unranged, ranged, bad-terms, good-terms, short-own, not_short, own-there}
use borrow.Author.Rules.{rules}
use Rattle.files.proofs.checks.front_fault.Goals as goal

pub returns-then-s-lt-HEAD : goal.returns-then-s-lt-HEAD
unfolding front_checks
returns-then-s-lt-HEAD c = search checks depth 12

pub returns-then-not-known : goal.returns-then-not-known
unfolding front_checks
returns-then-not-known c = search checks depth 12

pub returns-then-s-rows_from : goal.returns-then-s-rows_from
unfolding front_checks
returns-then-s-rows_from c = search (checks, short-own) depth 12

pub form_of-requires : goal.form_of-requires
form_of-requires c = (search rules, search own-there)

pub returns-then-not-head_ok : goal.returns-then-not-head_ok
unfolding front_checks
returns-then-not-head_ok c = search (checks, not_short, unranged) depth 12

pub returns-then-not-terms_ok : goal.returns-then-not-terms_ok
unfolding front_checks
returns-then-not-terms_ok c = search (checks, not_short, ranged, bad-terms) depth 14 fits 6000

pub returns : goal.returns
unfolding front_checks
returns c = search (checks, not_short, ranged, good-terms) depth 14 fits 6000
