-- `levy_try::interval` meets its contract: its figures are those that were asked for.
use Rattle.levy_try.proofs.Cases.{got-at, paid-at, fit-x}
use Rattle.levy_try.proofs.interval.Goals as goal

pub shown-told-requires : goal.shown-told-requires
shown-told-requires c = fit-x _ _ _ _ _ _ _ c.requires

pub expect-requires : goal.expect-requires
expect-requires c = got-at 0 _ _ _ c.shown-told.ensures.0 c.requires.told

pub expect-requires-2 : goal.expect-requires-2
expect-requires-2 c = got-at 1 _ _ _ c.shown-told.ensures.0 c.requires.told

pub expect-requires-3 : goal.expect-requires-3
expect-requires-3 c = got-at 2 _ _ _ c.shown-told.ensures.0 c.requires.told

pub expect-requires-4 : goal.expect-requires-4
expect-requires-4 c = paid-at 1 _ _ _ _ c.shown-told.ensures.1 c.requires.made

pub expect-requires-5 : goal.expect-requires-5
expect-requires-5 c = paid-at 2 _ _ _ _ c.shown-told.ensures.1 c.requires.made
