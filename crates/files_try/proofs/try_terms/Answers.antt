-- `files_try::try_terms` meets its contract.
use Rattle.files_try.proofs.Figures.{terms, stated-told}
use Rattle.files_try.proofs.try_terms.Goals as goal

pub expect-requires : goal.expect-requires
expect-requires c = stated-told _ _ _ _ _ _ _ terms.sound c.stated_answer.ensures

pub expect-requires-2 : goal.expect-requires-2
expect-requires-2 c = stated-told _ _ _ _ _ _ _ terms.percent_40 c.stated_answer-2.ensures

pub expect-requires-3 : goal.expect-requires-3
expect-requires-3 c = stated-told _ _ _ _ _ _ _ terms.percent_41 c.stated_answer-3.ensures

pub expect-requires-4 : goal.expect-requires-4
expect-requires-4 c = stated-told _ _ _ _ _ _ _ terms.percent_50 c.stated_answer-4.ensures

pub expect-requires-5 : goal.expect-requires-5
expect-requires-5 c = stated-told _ _ _ _ _ _ _ terms.percent_51 c.stated_answer-5.ensures

pub expect-requires-6 : goal.expect-requires-6
expect-requires-6 c = stated-told _ _ _ _ _ _ _ terms.lowest1_0 c.stated_answer-6.ensures

pub expect-requires-7 : goal.expect-requires-7
expect-requires-7 c = stated-told _ _ _ _ _ _ _ terms.lowest1_1 c.stated_answer-7.ensures

pub expect-requires-8 : goal.expect-requires-8
expect-requires-8 c = stated-told _ _ _ _ _ _ _ terms.lowest1_329 c.stated_answer-8.ensures

pub expect-requires-9 : goal.expect-requires-9
expect-requires-9 c = stated-told _ _ _ _ _ _ _ terms.lowest1_330 c.stated_answer-9.ensures

pub expect-requires-10 : goal.expect-requires-10
expect-requires-10 c = stated-told _ _ _ _ _ _ _ terms.highest1_331 c.stated_answer-10.ensures

pub expect-requires-11 : goal.expect-requires-11
expect-requires-11 c = stated-told _ _ _ _ _ _ _ terms.lowest2_329 c.stated_answer-11.ensures

pub expect-requires-12 : goal.expect-requires-12
expect-requires-12 c = stated-told _ _ _ _ _ _ _ terms.lowest2_760 c.stated_answer-12.ensures

pub expect-requires-13 : goal.expect-requires-13
expect-requires-13 c = stated-told _ _ _ _ _ _ _ terms.lowest2_400 c.stated_answer-13.ensures

pub expect-requires-14 : goal.expect-requires-14
expect-requires-14 c = stated-told _ _ _ _ _ _ _ terms.highest2_1000 c.stated_answer-14.ensures

pub expect-requires-15 : goal.expect-requires-15
expect-requires-15 c = stated-told _ _ _ _ _ _ _ terms.highest2_1001 c.stated_answer-15.ensures
