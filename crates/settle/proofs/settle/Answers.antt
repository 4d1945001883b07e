-- `settle::settle` meets its contract: a refused pair keeps the buffer, an accepted one is for `settle_rows`.
use Rattle.std.proofs.Common.{sym}
use Rattle.std.proofs.lemmas.Result.{err_from_is_err_and}
use Rattle.settle.proofs.Answered.{refusal-told, refusal-left}
use Rattle.settle.proofs.settle.Goals as goal

pub settle_rows-requires : goal.settle_rows-requires
settle_rows-requires c = sym c.in_ok-n.ensures

pub returns-in_err-n : goal.returns-in_err-n
returns-in_err-n c =
    let p = err_from_is_err_and c.from_residual.result c.from_residual.ensures.1 in
    record {
      value = rw (p.1, p.2) (refusal-told _ _ _ _ _ (sym c.in_err-n.ensures));
      statement_after = refusal-left _ _ _ _ _ (sym c.in_err-n.ensures);
    }
