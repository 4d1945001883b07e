-- `telling::told` meets its contract: where the answer is a settlement, the buffer holds what the engine wrote.
use Rattle.std.proofs.Common.{rules, sym, arith}
use mathlib.Core.Path.{refl}
use lib.Seq.{length-take-le}
use Rattle.telling.proofs.Size.{settled-size}
use Rattle.telling.proofs.Printed.{settled-told, settled-placed, refused-placed}
use Rattle.telling.proofs.told.Goals as goal

pub slice_bounds-tell_statement-end : goal.slice_bounds-tell_statement-end
slice_bounds-tell_statement-end c =
    let call = c.settle in
    omega (arith, settled-size _ _ _ c.in-Ok.size _ c.in-Ok.ensures.value refl, call.auto.statement)

pub slice_bounds-tell_statement-end-in-Ok : goal.slice_bounds-tell_statement-end-in-Ok
slice_bounds-tell_statement-end-in-Ok c =
    let call = c.settle in
    sym (length-take-le _ _ (omega (arith, settled-size _ _ _ c.in-Ok.size _ c.in-Ok.ensures.value refl, call.auto.statement)))

pub tell_statement-requires : goal.tell_statement-requires
tell_statement-requires c =
    let call = c.settle in
    (settled-told _ _ _ _ _ c.in-Ok.ensures.value call.ensures.statement_after refl, search rules)

pub returns-in-Ok : goal.returns-in-Ok
returns-in-Ok c = record {
  placed = settled-placed _ _ _ (search rules) c.in-Ok.ensures.value _ _ _ _ _ c.settle.ensures.statement_after refl c.tell_statement.ensures;
  statement_after = search rules;
}

pub returns-in-Err : goal.returns-in-Err
returns-in-Err c = record {
  placed = refused-placed _ _ _ (search rules) c.in-Err.ensures.value _ _ _ _ _ refl c.tell_refusal.ensures;
  statement_after = search rules;
}
