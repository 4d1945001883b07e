-- `files::checks::check` meets its contract.
use Rattle.std.proofs.Common.{refl, sym, ◌∙◌}
use Rattle.std.proofs.lemmas.Result.{err_from_is_err_and}
use borrow.Author.Tests.{eqb-true, eqb-false}
use Rattle.files.proofs.Named.{own-accepted, own-refused, alone, paired}
use Rattle.files.proofs.checks.check.Goals as goal

pub present_verdict-requires : goal.present_verdict-requires
present_verdict-requires c = own-accepted _ _ c.in_ok-n.ensures _ refl

pub returns-in_err-n : goal.returns-in_err-n
returns-in_err-n c =
    let p = err_from_is_err_and c.from_residual.result c.from_residual.ensures.1 in
    rw (p.1, p.2) (own-refused _ _ c.in_err-n.ensures _ _ _ refl)

pub returns-then-is_empty : goal.returns-then-is_empty
returns-then-is_empty c =
    alone _ _ c.in_ok-n.ensures _ _ refl (eqb-true _ _ (sym c.is_empty.ensures ∙ c.if-is_empty.true))

pub returns : goal.returns
returns c = paired _ _ c.in_ok-n.ensures _ _ _ refl (eqb-false _ _ (sym c.is_empty.ensures ∙ c.if-is_empty.false)) c.present_verdict.ensures
