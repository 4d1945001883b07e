-- `settle::rows::Pair::read` meets its contract: the lines of the rows passed are put.
use Rattle.settle.proofs.Reading.{row-ranged, row_inside, lined-none, lined-more}
use borrow.Author.Rules.{rules}
use Rattle.settle.proofs.rows.Pair.read.Goals as goal

pub loop-i-init : goal.loop-i-init
loop-i-init g c = search lined-none

pub duty-duties-requires : goal.duty-duties-requires
duty-duties-requires g c = c.requires.duties.may _ (search row-ranged)

pub loop-i-preserved : goal.loop-i-preserved
loop-i-preserved g c = search lined-more

pub put_duty-requires : goal.put_duty-requires
put_duty-requires g c = (search row_inside, search rules)
