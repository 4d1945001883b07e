-- `records::get_column` meets its contract: the cells before record i stand in the column.
use native.Mathlib.Omega.{arith}
use Rattle.columns.proofs.Fill.{reached-none, reached-next}
use Rattle.records.proofs.Column.{cell-narrow, read-room, read_all}
use borrow.Author.Rules.{rules}
use Rattle.records.proofs.cells.get_column.Goals as goal

pub loop-i-init : goal.loop-i-init
loop-i-init c = search reached-none

pub cell-requires : goal.cell-requires
cell-requires c = (read-room _ _ _ _ _ c.loop-i.invariant c.requires.0 (omega (arith, c.loop-i.auto.column)), search rules)

pub overflow_cast-x : goal.overflow_cast-x
overflow_cast-x c = let l = cell-narrow _ _ c.cell.ensures.1 (search rules) in search rules

pub loop-i-preserved : goal.loop-i-preserved
loop-i-preserved c = reached-next _ _ _ _ _ _ c.loop-i.invariant (omega (arith, c.loop-i.auto.column)) c.cell.ensures.0

pub returns : goal.returns
returns c = read_all _ _ _ _ _ c.loop-i.invariant (omega (arith, c.loop-i.auto.column))
