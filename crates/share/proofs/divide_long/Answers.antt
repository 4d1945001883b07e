-- `share::divide_long` meets its contract: before digit k the amount without its last k digits is divided.
use Rattle.share.proofs.Long.{long-ready, long-again}
use Rattle.share.proofs.divide_long.Goals as goal

pub next_digit-d-requires : goal.next_digit-d-requires
next_digit-d-requires c = search long-ready

pub loop-k-preserved : goal.loop-k-preserved
loop-k-preserved c = search long-again
