-- `records::number_at` meets its contract: four bytes or two at once; of any other width the loop has read the bytes from i on.
use mathlib.Core.Path.{◌∙◌}
use Prim.Native.Nat.{◌<◌, ◌^◌}
use Rattle.records.proofs.Reading.{number-of2, number-of4, read_none, read-room, read_next, read_all}
use borrow.Author.Rules.{rules}
use Rattle.records.proofs.number_at.Goals as goal

pub returns-then-width-eq4 : goal.returns-then-width-eq4
returns-then-width-eq4 c = rw c.if-width-eq4.true (c.from.ensures ∙ number-of4 _ _ _ c.from_le_bytes.ensures, search rules)

pub returns-then-width-eq2 : goal.returns-then-width-eq2
returns-then-width-eq2 c = rw c.if-width-eq2.true (c.from-then-width-eq2.ensures ∙ number-of2 _ _ _ c.from_le_bytes-then-width-eq2.ensures, search rules)

pub loop-i-init : goal.loop-i-init
loop-i-init c = search read_none

pub overflow_mul-v : goal.overflow_mul-v
overflow_mul-v c = let l : c.loop-i.v < 2 ^ 56 = search read-room in search rules

pub overflow_add-v : goal.overflow_add-v
overflow_add-v c = let l : c.loop-i.v < 2 ^ 56 = search read-room in search rules

pub loop-i-preserved : goal.loop-i-preserved
loop-i-preserved c = read_next _ _ _ _ _ _ c.loop-i.invariant c.loop-i-test.true c.wide.ensures.0 (search rules)

pub returns : goal.returns
returns c = read_all _ _ _ _ _ c.loop-i.invariant c.loop-i-test.false
