-- `share::serve_above` meets its contract: up to place j of the list everybody has what is due.
use lib.ListN.{length}
use Rattle.columns.proofs.Listed.{Dealt}
use Rattle.share.specs.Steps.{weighs, lifted}
use Rattle.share.proofs.serve_above.Given as goal

abbrev pub invariant-loop-rest : goal.invariant-loop-rest
invariant-loop-rest l =
    Dealt (length l.weights) (weighs l.weights) (lifted l.weights l.initial.out l.rests l.low) l.initial.out l.out (length l.yielded)
