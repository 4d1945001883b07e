-- `files_try::main` meets its contract.
use Rattle.files_try.proofs.Figures.{figures, told}
use Rattle.files_try.proofs.main.Goals as goal

pub expect-requires : goal.expect-requires
expect-requires c = told _ _ _ _ figures.capacity_2000 c.answer.ensures

pub expect-requires-2 : goal.expect-requires-2
expect-requires-2 c = told _ _ _ _ figures.capacity_2001 c.answer-2.ensures

pub expect-requires-3 : goal.expect-requires-3
expect-requires-3 c = told _ _ _ _ figures.bid_99 c.answer-3.ensures

pub expect-requires-4 : goal.expect-requires-4
expect-requires-4 c = told _ _ _ _ figures.bid_100 c.answer-4.ensures

pub expect-requires-5 : goal.expect-requires-5
expect-requires-5 c = told _ _ _ _ figures.bid_320 c.answer-5.ensures

pub expect-requires-6 : goal.expect-requires-6
expect-requires-6 c = told _ _ _ _ figures.bid_321 c.answer-6.ensures
