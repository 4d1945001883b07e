-- `records::get_record` meets its contract: the fields before field i are read.
use Rattle.records.proofs.Got.{Got}
use Rattle.records.proofs.get_record.Given as goal

abbrev pub invariant-loop-i : goal.invariant-loop-i
invariant-loop-i l = Got l.s l.at l.widths l.fields l.end l.i
