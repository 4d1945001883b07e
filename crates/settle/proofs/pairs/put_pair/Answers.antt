-- `settle::pairs::put_pair` meets its contract: the cells of both fields before line i hold the columns' numbers.
use mathlib.Core.Path.{◌∙◌}
use lib.ListN.{length-append}
use Rattle.settle.proofs.LineByLine.{counted-turn, counted-end, written_none, written-one-room, written-two-room, written_next, written_all}
use Rattle.settle.proofs.pairs.put_pair.Goals as goal

pub loop-i-init : goal.loop-i-init
loop-i-init c = search written_none

pub put_cell-requires : goal.put_cell-requires
put_cell-requires c =
    let here =
    counted-turn c.args.first.now c.args.second.now c.requires.second_len.0 _ (cc) (cc) (cc) _ _ c.next.new.self c.loop-i.yielded_by
    c.in-Some.i c.in-Some.x c.in-Some.y c.in-Some.ensures.steps in
    rw here.1 (written-one-room _ _ _ _ _ _ _ c.loop-i.invariant c.requires.lined.0 here.0)

pub put_cell-requires-in-loop-i : goal.put_cell-requires-in-loop-i
put_cell-requires-in-loop-i c =
    let here =
    counted-turn c.args.first.now c.args.second.now c.requires.second_len.0 _ (cc) (cc) (cc) _ _ c.next.new.self c.loop-i.yielded_by
    c.in-Some.i c.in-Some.x c.in-Some.y c.in-Some.ensures.steps in
    let one = rw here.1 at c.put_cell.ensures in
    rw here.1 (written-two-room _ _ _ _ _ _ _ c.loop-i.invariant c.requires.lined.0 here.0 _ _ one c.requires.lined.1)

pub loop-i-preserved : goal.loop-i-preserved
loop-i-preserved c =
    let here =
    counted-turn c.args.first.now c.args.second.now c.requires.second_len.0 _ (cc) (cc) (cc) _ _ c.next.new.self c.loop-i.yielded_by
    c.in-Some.i c.in-Some.x c.in-Some.y c.in-Some.ensures.steps in
    let one = rw here.1 at c.put_cell.ensures in
    let two = rw here.1 at c.put_cell-in-loop-i.ensures in
    let asked = c.requires in
    rw length-append
    (written_next _ _ _ _ _ _ _ c.loop-i.invariant asked.lined.0 here.0 _ _ one asked.lined.1 asked.second_len.1
    (c.wide.ensures.0 ∙ here.2) _ (c.wide-in-loop-i.ensures.0 ∙ here.3) _ two)

pub returns : goal.returns
returns c =
    written_all _ _ _ _ _ _ _ c.loop-i.invariant
    (counted-end c.args.first.now c.args.second.now c.requires.second_len.0 _ (cc) (cc) (cc) _ _ c.next.new.self c.loop-i.yielded_by
    c.in-None.ensures.steps)
