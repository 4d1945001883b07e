-- `records::put_number` meets its contract: the bytes from the loop's on are still owed.
use Rattle.records.proofs.Fields.{Split}
use Rattle.records.proofs.put_number.Given as goal

abbrev pub invariant-loop-byte : goal.invariant-loop-byte
invariant-loop-byte l = Split l.width l.x l.byte-items l.left l.byte-index
