-- `share::quotas_of` meets its contract: quotas and remainders are filled up to place j of the list.
use lib.ListN.{length}
use Rattle.share.proofs.Steps.{Filled}
use Rattle.share.proofs.quotas_of.Given as goal

abbrev pub invariant-loop-j : goal.invariant-loop-j
invariant-loop-j l = Filled l.amount l.weights l.list (length l.initial.rests) l.initial.quotas l.quotas l.rests l.left l.j
