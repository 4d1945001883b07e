-- `records::number_at` meets its contract: four bytes or two at once; of any other width the loop has read the bytes from i on.
use Rattle.records.proofs.Reading.{Read}
use Rattle.records.proofs.number_at.Given as goal

abbrev pub invariant-loop-i : goal.invariant-loop-i
invariant-loop-i l = Read l.s l.at l.width l.v l.i
