-- `settle::pairs::get_pair` meets its contract: the cells of both fields before line i stand in their columns.
use Rattle.records.proofs.Column.{cell-narrow}
use Rattle.settle.proofs.LineByLine.{read_none, read-inside, read-one-room, read-two-room, read_next, read_one, read-two}
use borrow.Author.Rules.{rules}
use Rattle.settle.proofs.pairs.get_pair.Goals as goal

pub loop-i-init : goal.loop-i-init
loop-i-init c = search read_none

pub cell-requires : goal.cell-requires
cell-requires c = (search read-one-room, search rules)

pub overflow_cast-first : goal.overflow_cast-first
overflow_cast-first c = let l = cell-narrow _ _ c.cell.ensures.1 (search rules) in search rules

pub cell-requires-in-loop-i : goal.cell-requires-in-loop-i
cell-requires-in-loop-i c = (search read-two-room, search rules)

pub overflow_cast-second : goal.overflow_cast-second
overflow_cast-second c = let l = cell-narrow _ _ c.cell-in-loop-i.ensures.1 (search rules) in search rules

pub bounds-second-i : goal.bounds-second-i
bounds-second-i c = search read-inside

pub loop-i-preserved : goal.loop-i-preserved
loop-i-preserved c = search read_next

pub returns : goal.returns
returns c = search (read_one, read-two)
