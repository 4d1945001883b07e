-- `levy_try::many` meets its contract.
use mathlib.Core.Path.{refl}
use mathlib.Core.List.{[], ◌∷◌}
use Rattle.levy_try.proofs.Cases.{got-at, paid-at, low-at, ready, four, four-paid}
use Rattle.levy_try.proofs.many.Goals as goal

pub shown-told-requires : goal.shown-told-requires
shown-told-requires c = ready 10000 5 _ _ tt refl refl tt (low-at 44000000 (2302 ∷ 1000 ∷ 3000 ∷ 2290 ∷ 2100 ∷ []) tt) tt tt

pub expect-requires : goal.expect-requires
expect-requires c = got-at 0 _ _ _ c.shown-told.ensures.0 four

pub expect-requires-2 : goal.expect-requires-2
expect-requires-2 c = got-at 1 _ _ _ c.shown-told.ensures.0 four

pub expect-requires-3 : goal.expect-requires-3
expect-requires-3 c = paid-at 2 _ _ _ _ c.shown-told.ensures.1 four-paid
