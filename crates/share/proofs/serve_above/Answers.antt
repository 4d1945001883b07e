-- `share::serve_above` meets its contract: up to place j of the list everybody has what is due.
use mathlib.Core.Path.{◌∙◌}
use native.Mathlib.Omega.{arith}
use lib.ListN.{length}
use Rattle.std.proofs.lemmas.List.{length_push}
use Rattle.columns.proofs.Sum.{count-le}
use Rattle.share.specs.Steps.{weighs}
use Rattle.share.proofs.Lifting.{lifted-in, lifted-fits, lifted-next, lifted-end}
use Rattle.share.proofs.serve_above.Goals as goal
use Rattle.std.proofs.lemmas.Slice.Zip.{zip_turn, zip_end}

pub bounds-out-i : goal.bounds-out-i
bounds-out-i c =
    let t = zip_turn c.args.rests.now c.args.list.now c.loop-rest.yielded c.into_iter-rest-iterator.result c.loop-rest.rest-iterator c.next.new.self _ (cc) (cc) c.loop-rest.yielded_by
    (c.in-Some.rest, c.in-Some.place) c.in-Some.is c.next.ensures.steps in
    lifted-in _ _ _ _ _ c.requires _ _ c.loop-rest.invariant t.0 _ (c.position-i.ensures.0 ∙ t.3 0)

pub overflow_add-out : goal.overflow_add-out
overflow_add-out c =
    let t = zip_turn c.args.rests.now c.args.list.now c.loop-rest.yielded c.into_iter-rest-iterator.result c.loop-rest.rest-iterator c.next.new.self _ (cc) (cc) c.loop-rest.yielded_by
    (c.in-Some.rest, c.in-Some.place) c.in-Some.is c.next.ensures.steps in
    record { fits = lifted-fits _ _ _ _ _ c.requires _ _ c.loop-rest.invariant t.0 _ (c.position-i.ensures.0 ∙ t.3 0) _ _ (t.2 0) c.from.ensures }

pub bounds-out-i-in-loop-rest : goal.bounds-out-i-in-loop-rest
bounds-out-i-in-loop-rest c =
    let t = zip_turn c.args.rests.now c.args.list.now c.loop-rest.yielded c.into_iter-rest-iterator.result c.loop-rest.rest-iterator c.next.new.self _ (cc) (cc) c.loop-rest.yielded_by
    (c.in-Some.rest, c.in-Some.place) c.in-Some.is c.next.ensures.steps in
    lifted-in _ _ _ _ _ c.requires _ _ c.loop-rest.invariant t.0 _ (c.position-i.ensures.0 ∙ t.3 0)

pub loop-rest-preserved : goal.loop-rest-preserved
loop-rest-preserved c =
    let t = zip_turn c.args.rests.now c.args.list.now c.loop-rest.yielded c.into_iter-rest-iterator.result c.loop-rest.rest-iterator c.next.new.self _ (cc) (cc)
    c.loop-rest.yielded_by (c.in-Some.rest, c.in-Some.place) c.in-Some.is c.next.ensures.steps in
    rw (length_push c.loop-rest.yielded (c.in-Some.rest, c.in-Some.place))
    (lifted-next _ _ _ _ _ c.requires _ _ c.loop-rest.invariant t.0 _ (c.position-i.ensures.0 ∙ t.3 0) _ _ (t.2 0) c.from.ensures)

pub returns : goal.returns
returns c =
    let e = zip_end c.args.rests.now c.args.list.now c.loop-rest.yielded c.into_iter-rest-iterator.result c.loop-rest.rest-iterator c.next.new.self _ (cc) (cc)
    c.loop-rest.yielded_by c.in-None.is c.next.ensures.steps in
    lifted-end _ _ _ _ _ c.requires _ _ c.loop-rest.invariant (omega (arith, e, c.requires.short, c.requires.listed.many, c.requires.listed.long, count-le (length c.args.weights.now) (weighs c.args.weights.now)))
