-- `files_try::try_rows` meets its contract.
use Rattle.files_try.proofs.Figures.{rows, stated-told}
use Rattle.files_try.proofs.try_rows.Goals as goal

pub expect-requires : goal.expect-requires
expect-requires c = stated-told _ _ _ _ _ _ _ rows.bid1_149 c.stated_answer.ensures

pub expect-requires-2 : goal.expect-requires-2
expect-requires-2 c = stated-told _ _ _ _ _ _ _ rows.bid1_150 c.stated_answer-2.ensures

pub expect-requires-3 : goal.expect-requires-3
expect-requires-3 c = stated-told _ _ _ _ _ _ _ rows.bid1_330 c.stated_answer-3.ensures

pub expect-requires-4 : goal.expect-requires-4
expect-requires-4 c = stated-told _ _ _ _ _ _ _ rows.bid1_331 c.stated_answer-4.ensures

pub expect-requires-5 : goal.expect-requires-5
expect-requires-5 c = stated-told _ _ _ _ _ _ _ rows.bid2_329 c.stated_answer-5.ensures

pub expect-requires-6 : goal.expect-requires-6
expect-requires-6 c = stated-told _ _ _ _ _ _ _ rows.bid2_330 c.stated_answer-6.ensures

pub expect-requires-7 : goal.expect-requires-7
expect-requires-7 c = stated-told _ _ _ _ _ _ _ rows.bid2_760 c.stated_answer-7.ensures

pub expect-requires-8 : goal.expect-requires-8
expect-requires-8 c = stated-told _ _ _ _ _ _ _ rows.bid2_761 c.stated_answer-8.ensures

pub expect-requires-9 : goal.expect-requires-9
expect-requires-9 c = stated-told _ _ _ _ _ _ _ rows.minimum_11250 c.stated_answer-9.ensures

pub expect-requires-10 : goal.expect-requires-10
expect-requires-10 c = stated-told _ _ _ _ _ _ _ rows.minimum_11251 c.stated_answer-10.ensures
