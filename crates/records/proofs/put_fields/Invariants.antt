-- `records::put_fields` meets its contract: the fields from the loop's on are still owed, from `end` on.
use lib.ListN.{length}
use Rattle.records.proofs.Fields.{Owed}
use Rattle.records.proofs.put_fields.Given as goal

abbrev pub invariant-loop-width : goal.invariant-loop-width
invariant-loop-width l = Owed l.initial.out l.at l.widths l.fields l.out l.end (length l.yielded)
