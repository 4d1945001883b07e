-- `levy::count_visits` meets its contract: the sum is that of the positions passed.
use Rattle.std.proofs.Common.{arith, rules, length-append}
use Rattle.std.proofs.lemmas.Slice.Zip.{zip_turn, zip_end}
use Rattle.levy.proofs.Told.{told_none, told-fits, told-on, told-end}
use Rattle.levy.proofs.visiting.count_visits.Goals as goal

pub loop-weight-init : goal.loop-weight-init
loop-weight-init c = told_none _ _ _

pub overflow_add-visits : goal.overflow_add-visits
overflow_add-visits c =
    let t = zip_turn c.args.weights.now c.args.marks.now c.loop-weight.yielded c.into_iter-weight-iterator.result c.loop-weight.weight-iterator c.next.new.self c.next.result
    (search rules) (search rules) c.loop-weight.yielded_by _ c.in-Some.is c.next.ensures.steps in
    record { fits = told-fits _ _ _ c.requires _ _ c.loop-weight.invariant t.0 _ _ (t.2 0) (t.3 0) _ c.visits_at-visits.ensures }

pub loop-weight-preserved : goal.loop-weight-preserved
loop-weight-preserved c =
    let t = zip_turn c.args.weights.now c.args.marks.now c.loop-weight.yielded c.into_iter-weight-iterator.result c.loop-weight.weight-iterator c.next.new.self c.next.result
    (search rules) (search rules) c.loop-weight.yielded_by _ c.in-Some.is c.next.ensures.steps in
    simp length-append (told-on _ _ _ c.requires _ _ c.loop-weight.invariant t.0 _ _ (t.2 0) (t.3 0) _ c.visits_at-visits.ensures)

pub returns : goal.returns
returns c =
    let e = zip_end c.args.weights.now c.args.marks.now c.loop-weight.yielded c.into_iter-weight-iterator.result c.loop-weight.weight-iterator c.next.new.self c.next.result
    (search rules) (search rules) c.loop-weight.yielded_by c.in-None.is c.next.ensures.steps in
    told-end _ _ _ c.requires _ _ c.loop-weight.invariant (omega (arith, e, c.requires.marks_long))
