-- `columns::list_where` meets its contract: of the positions passed those that pass the test stand in the list.
use mathlib.Core.Path.{◌≡◌, refl, sym, ap, ◌∙◌}
use native.Mathlib.Omega.{arith}
use Rattle.std.specs.Prelude.{Some}
use Rattle.std.proofs.lemmas.Option.{slice_get-get_or}
use Rattle.columns.specs.Sum.{bit}
use Rattle.columns.proofs.Listed.{listing_none, listing-next, listing-end, listing-written}
use Rattle.columns.proofs.list_where.Goals as goal

pub loop-i-init : goal.loop-i-init
loop-i-init g c = (omega arith, λ test told. listing_none _ _ _ _ refl c.told-list)

pub loop-i-preserved : goal.loop-i-preserved
loop-i-preserved g c = (
  omega (arith, c.one_if-m.ensures),
  λ test told.
      let there = slice_get-get_or c.args.column.now c.loop-i.i c.index-column-i.result c.loop-i-test.true ∙ ap Some (sym c.index-column-i.is) in
      let is : c.passes.result ≡ test c.loop-i.i =
      told c.loop-i.i c.index-column-i.result c.passes.result there
      (record { shown = _; shows = refl; says = record { met = c.passes.ensures } }) in
      listing-next _ _ _ _ _ _ (c.loop-i.invariant.1 test told) (omega (arith, c.requires)) c.loop-i-test.true c.one_if-m.result
      (c.one_if-m.ensures.0 ∙ ap bit is),
)

pub returns-clause-listed : goal.returns-clause-listed
returns-clause-listed g c = λ test told. listing-end _ _ _ _ _ _ (c.loop-i.invariant.1 test told) c.loop-i-test.false

pub returns-clause-written : goal.returns-clause-written
returns-clause-written g c = λ test told. listing-written _ _ _ _ _ _ (c.loop-i.invariant.1 test told) c.loop-i-test.false
