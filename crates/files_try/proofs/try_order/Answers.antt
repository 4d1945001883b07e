-- `files_try::try_order` meets its contract.
use Rattle.files_try.proofs.Figures.{order, stated-told}
use Rattle.files_try.proofs.try_order.Goals as goal

pub expect-requires : goal.expect-requires
expect-requires c = stated-told _ _ _ _ _ _ _ order.mark_f c.stated_answer.ensures

pub expect-requires-2 : goal.expect-requires-2
expect-requires-2 c = stated-told _ _ _ _ _ _ _ order.one_before_2 c.stated_answer-2.ensures

pub expect-requires-3 : goal.expect-requires-3
expect-requires-3 c = stated-told _ _ _ _ _ _ _ order.two_before_14 c.stated_answer-3.ensures

pub expect-requires-4 : goal.expect-requires-4
expect-requires-4 c = stated-told _ _ _ _ _ _ _ order.one_before_14 c.stated_answer-4.ensures

pub expect-requires-5 : goal.expect-requires-5
expect-requires-5 c = stated-told _ _ _ _ _ _ _ order.one_before_3 c.stated_answer-5.ensures

pub expect-requires-6 : goal.expect-requires-6
expect-requires-6 c = stated-told _ _ _ _ _ _ _ order.length_24 c.stated_answer-6.ensures

pub expect-requires-7 : goal.expect-requires-7
expect-requires-7 c = stated-told _ _ _ _ _ _ _ order.tariff_0 c.stated_answer-7.ensures

pub expect-requires-8 : goal.expect-requires-8
expect-requires-8 c = stated-told _ _ _ _ _ _ _ order.three_before_14 c.stated_answer-8.ensures

pub expect-requires-9 : goal.expect-requires-9
expect-requires-9 c = stated-told _ _ _ _ _ _ _ order.length_44 c.stated_answer-9.ensures

pub expect-requires-10 : goal.expect-requires-10
expect-requires-10 c = stated-told _ _ _ _ _ _ _ order.fourteen_before_4 c.stated_answer-10.ensures

pub expect-requires-11 : goal.expect-requires-11
expect-requires-11 c = stated-told _ _ _ _ _ _ _ order.row_mark c.stated_answer-11.ensures

pub expect-requires-12 : goal.expect-requires-12
expect-requires-12 c = stated-told _ _ _ _ _ _ _ order.fourteen_before_5 c.stated_answer-12.ensures
