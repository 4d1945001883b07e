-- `levy::close_round` meets its contract: the open payers passed are closed if the round closes them, the others listed, and both
-- sums are theirs.
use Rattle.std.proofs.Common.{ℕ, ◌+◌, cond, ap, ◌∙◌}
use Rattle.levy.proofs.Turn.{pass-none, pass-next, pass-end, products, caps-fit, weights-fit, place_in, kept_in, kept-fits}
use Rattle.levy.proofs.closing.close_round.Goals as goal

pub loop-j-init : goal.loop-j-init
loop-j-init c = search pass-none

pub bounds-list-j : goal.bounds-list-j
bounds-list-j c = search place_in

pub closes-t-requires : goal.closes-t-requires
closes-t-requires c = products _ _ _ _ _ _ _ _ c.requires _ _ _ _ _ _ c.loop-j.invariant c.loop-j-test.true _ c.position-at.ensures.0

pub overflow_add-closed_caps : goal.overflow_add-closed_caps
overflow_add-closed_caps c = record { fits = search caps-fit }

pub overflow_add-closed_weights : goal.overflow_add-closed_weights
overflow_add-closed_weights c = record { fits = search weights-fit }

pub bounds-list-kept : goal.bounds-list-kept
bounds-list-kept c = search kept_in

pub overflow_add-kept : goal.overflow_add-kept
overflow_add-kept c =
    record { fits = kept-fits _ _ _ _ _ _ _ _ c.requires _ _ _ _ _ _ c.loop-j.invariant c.loop-j-test.true _ c.position-at.ensures.0 _ c.one_if-kept.ensures.1 }

pub loop-j-preserved : goal.loop-j-preserved
loop-j-preserved c = pass-next _ _ _ _ _ _ _ _ c.requires _ _ _ _ _ _ c.loop-j.invariant c.loop-j-test.true _ c.position-at.ensures.0 _ c.closes-t.ensures
    _ c.counted-closed_caps.ensures.0 _ c.counted-closed_weights.ensures.0
    _ (c.counted.ensures ∙ ap (λ (r : ℕ). cond c.closes-t.result (r + 1) 0) c.from-round.ensures) _ c.one_if-kept.ensures.0

pub returns : goal.returns
returns c = search pass-end
