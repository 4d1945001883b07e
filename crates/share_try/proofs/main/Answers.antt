-- `share_try::main` meets its contract: each check is read off the figure of its case.
use Rattle.share.proofs.Figures.{p7, p8, second-first, wide, wide-tie, no-weight}
use Rattle.share_try.proofs.Cases.{ready, got}
use Rattle.share_try.proofs.main.Goals as goal

pub shown-p7-requires : goal.shown-p7-requires
shown-p7-requires c = ready 1 1 1 0 tt tt

pub expect-requires : goal.expect-requires
expect-requires c = search (got, p7)

pub expect-requires-2 : goal.expect-requires-2
expect-requires-2 c = search (got, p7)

pub shown-p8-requires : goal.shown-p8-requires
shown-p8-requires c = ready 3 3 1 0 tt tt

pub expect-requires-3 : goal.expect-requires-3
expect-requires-3 c = search (got, p8)

pub expect-requires-4 : goal.expect-requires-4
expect-requires-4 c = search (got, p8)

pub shown-second_first-requires : goal.shown-second_first-requires
shown-second_first-requires c = ready 1 1 1 1 tt tt

pub expect-requires-5 : goal.expect-requires-5
expect-requires-5 c = search (got, second-first)

pub expect-requires-6 : goal.expect-requires-6
expect-requires-6 c = search (got, second-first)

pub shown-wide-requires : goal.shown-wide-requires
shown-wide-requires c = ready 9223372036854775808 9223372036854775806 1 0 tt tt

pub expect-requires-7 : goal.expect-requires-7
expect-requires-7 c = search (got, wide)

pub expect-requires-8 : goal.expect-requires-8
expect-requires-8 c = search (got, wide)

pub expect-requires-9 : goal.expect-requires-9
expect-requires-9 c = search (got, wide)

pub shown-wide_tie-requires : goal.shown-wide_tie-requires
shown-wide_tie-requires c = ready 4611686018427387904 4611686018427387904 4611686018427387904 1 tt tt

pub expect-requires-10 : goal.expect-requires-10
expect-requires-10 c = search (got, wide-tie)

pub expect-requires-11 : goal.expect-requires-11
expect-requires-11 c = search (got, wide-tie)

pub shown-no_weight-requires : goal.shown-no_weight-requires
shown-no_weight-requires c = ready 0 0 0 0 tt tt

pub expect-requires-12 : goal.expect-requires-12
expect-requires-12 c = search (got, no-weight)
