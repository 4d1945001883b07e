-- `records::put_number` meets its contract: the bytes from the loop's on are still owed.
use native.Mathlib.Omega.{arith}
use lib.ListN.{length-take, length-drop}
use Rattle.records.proofs.Fields.{split-none, split-next, split-all}
use Rattle.records.proofs.put_number.Goals as goal

pub loop-byte-init : goal.loop-byte-init
loop-byte-init c = split-none _ _ _ (simp (length-take, length-drop) (omega arith))

pub loop-byte-preserved : goal.loop-byte-preserved
loop-byte-preserved c = split-next _ _ _ _ _ c.loop-byte.invariant (omega (arith, c.loop-byte.auto.byte-items))

pub returns : goal.returns
returns c = split-all _ _ _ _ _ c.loop-byte.invariant _ _ _ (omega arith) (omega (arith, c.loop-byte.auto.byte-items))
