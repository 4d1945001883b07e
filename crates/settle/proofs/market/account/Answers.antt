-- `settle::market::account` meets its contract: the rows passed have both figures.
use Rattle.settle.proofs.Paying.{sofar-none, line-there, pay-there, owed-there, total-fits, penalties-fit, sofar-more, sofar-long, sofar-all}
use borrow.Author.Rules.{rules}
use Rattle.settle.proofs.market.account.Goals as goal

pub loop-i-init : goal.loop-i-init
loop-i-init c = search sofar-none

pub pay_at-pay-requires : goal.pay_at-pay-requires
pay_at-pay-requires c = (search line-there, search rules, search rules)

pub owed_at-owed-requires : goal.owed_at-owed-requires
owed_at-owed-requires c = (search line-there, search rules, search rules)

pub put_cell-requires : goal.put_cell-requires
put_cell-requires c = search pay-there

pub put_cell-requires-in-loop-i : goal.put_cell-requires-in-loop-i
put_cell-requires-in-loop-i c =
    owed-there _ _ _ _ c.requires _ _ _ _ c.loop-i.invariant c.loop-i-test.true _ _ c.put_cell.ensures

pub add_assign-requires : goal.add_assign-requires
add_assign-requires c = search total-fits

pub add_assign-requires-in-loop-i : goal.add_assign-requires-in-loop-i
add_assign-requires-in-loop-i c = search penalties-fit

pub loop-i-preserved : goal.loop-i-preserved
loop-i-preserved c =
    sofar-more _ _ _ _ c.requires _ _ _ _ c.loop-i.invariant c.loop-i-test.true _ _ c.pay_at-pay.ensures
    c.owed_at-owed.ensures _ c.put_cell.ensures _ c.put_cell-in-loop-i.ensures _ c.add_assign.ensures.after
    _ c.add_assign-in-loop-i.ensures.after

pub shape_of-sheet : goal.shape_of-sheet
shape_of-sheet c = search sofar-long

pub returns : goal.returns
returns c = search sofar-all
