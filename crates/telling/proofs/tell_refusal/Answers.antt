-- `telling::tell_refusal` meets its contract.
use Rattle.telling.proofs.Printed.{refusal-placed}
use Rattle.telling.proofs.tell_refusal.Goals as goal

pub returns : goal.returns
returns c = rw (← c.number.ensures.0) (search refusal-placed)
