-- `telling::tell` meets its contract.
use Rattle.telling.proofs.Texts.{placed-front}
use Rattle.telling.proofs.tell.Goals as goal

pub print-requires : goal.print-requires
print-requires c = search placed-front
