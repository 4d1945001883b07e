-- `telling::tell_fields` meets its contract.
use mathlib.Core.Path.{refl, ◌∙◌}
use native.Mathlib.Omega.{arith}
use Rattle.telling.proofs.Spelled.{no_fields, fields-more, fields-all}
use Rattle.telling.proofs.tell_fields.Goals as goal

pub loop-i-init : goal.loop-i-init
loop-i-init c = (omega arith, refl, no_fields _ _ _)

pub tell_number-at-requires : goal.tell_number-at-requires
tell_number-at-requires c =
    let l = c.loop-i in
    omega (arith, l.invariant.1, l.invariant.2.fits, c.requires.1)

pub loop-i-preserved : goal.loop-i-preserved
loop-i-preserved c =
    let l = c.loop-i in
    let p = c.requires in
    let call = c.tell_number-at in (
      omega arith,
      call.auto.text ∙ l.invariant.1,
      fields-more _ _ _ _ _ _ _ _ _ c.loop-i-test.true p.0 p.1 l.invariant.2
          c.end_of.ensures call.ensures,
    )

pub returns : goal.returns
returns c = search fields-all
