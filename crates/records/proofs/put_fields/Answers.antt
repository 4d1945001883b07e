-- `records::put_fields` meets its contract: the fields from the loop's on are still owed, from `end` on.
use mathlib.Core.Path.{◌∙◌}
use native.Mathlib.Omega.{arith}
use Rattle.std.proofs.lemmas.List.{length_push}
use Rattle.std.proofs.lemmas.Slice.Zip.{zip_turn, zip_end}
use Rattle.records.proofs.Fields.{owed-next, owed_all}
use Rattle.records.proofs.put_fields.Goals as goal

pub loop-width-preserved : goal.loop-width-preserved
loop-width-preserved c =
    let turn =
    zip_turn c.args.widths.now c.args.fields.now c.loop-width.yielded _ _ c.next.new.self _ (cc) (cc) c.loop-width.yielded_by
    (c.in-Some.width, c.in-Some.x) c.in-Some.is c.next.ensures.steps in
    rw (length_push c.loop-width.yielded (c.in-Some.width, c.in-Some.x))
    (owed-next _ _ _ _ _ _ _ c.loop-width.invariant _ _ (c.from-width.ensures ∙ turn.2 0) (rw (turn.3 0) at c.put_number.ensures) turn.0
    c.requires.0 c.requires.1)

pub returns : goal.returns
returns c =
    let end =
    zip_end c.args.widths.now c.args.fields.now c.loop-width.yielded _ _ c.next.new.self _ (cc) (cc) c.loop-width.yielded_by c.in-None.is c.next.ensures.steps in
    owed_all _ _ _ _ _ _ _ c.loop-width.invariant (omega (arith, end))
