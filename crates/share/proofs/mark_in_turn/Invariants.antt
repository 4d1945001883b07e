-- `share::mark_in_turn` meets its contract: whoever has had its turn is marked.
use Rattle.share.proofs.Serving.{Handed}
use Rattle.share.proofs.mark_in_turn.Given as goal

abbrev pub invariant-loop-t : goal.invariant-loop-t
invariant-loop-t l = Handed l.initial.rests l.start l.left l.line.low l.t l.met l.rests
