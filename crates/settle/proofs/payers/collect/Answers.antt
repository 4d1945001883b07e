-- `settle::payers::collect` meets its contract: it lends columns, and puts payments and closing rounds into their fields.
use Rattle.settle.proofs.Levying.{front-leviable, weights-asked, caps-asked, rounds-asked, paid-count, marks-count, paid-asked, marks-asked, counts-level, levied}
use mathlib.Core.Path.{refl}
use Rattle.settle.proofs.payers.collect.Goals as goal

pub slice_bounds-get_pair-end : goal.slice_bounds-get_pair-end
slice_bounds-get_pair-end c = search front-leviable

pub slice_bounds-get_pair-end-2 : goal.slice_bounds-get_pair-end-2
slice_bounds-get_pair-end-2 c = search front-leviable

pub get_pair-requires : goal.get_pair-requires
get_pair-requires c = search (weights-asked, caps-asked)

pub levy_on-rest-requires : goal.levy_on-rest-requires
levy_on-rest-requires c =
    let asked = c.requires in
    (rounds-asked _ _ _ _ asked _ _ c.get_pair.ensures.first_after c.get_pair.ensures.second_after, asked.turn)

pub slice_bounds-put_pair-end : goal.slice_bounds-put_pair-end
slice_bounds-put_pair-end c =
    let asked = c.requires in
    paid-count _ _ _ _ asked _ _ c.get_pair.ensures.first_after c.get_pair.ensures.second_after _ _ _ c.levy_on-rest.ensures

pub slice_bounds-put_pair-end-2 : goal.slice_bounds-put_pair-end-2
slice_bounds-put_pair-end-2 c =
    let asked = c.requires in
    marks-count _ _ _ _ asked _ _ c.get_pair.ensures.first_after c.get_pair.ensures.second_after _ _ _ c.levy_on-rest.ensures

pub put_pair-requires : goal.put_pair-requires
put_pair-requires c =
    let asked = c.requires in record {
      lined = (
        paid-asked _ _ _ _ asked _ _ c.get_pair.ensures.first_after c.get_pair.ensures.second_after _ _ _ c.levy_on-rest.ensures,
        marks-asked _ _ _ _ asked _ _ c.get_pair.ensures.first_after c.get_pair.ensures.second_after _ _ _ c.levy_on-rest.ensures,
      );
      second_len = (
        counts-level _ _ _ _ asked _ _ c.get_pair.ensures.first_after c.get_pair.ensures.second_after _ _ _ c.levy_on-rest.ensures,
        record { start = refl; stride = refl },
      );
    }

pub returns : goal.returns
returns c =
    let asked = c.requires in
    levied _ _ _ _ asked _ _ c.get_pair.ensures.first_after c.get_pair.ensures.second_after _ _ _ c.levy_on-rest.ensures _ c.put_pair.ensures
