-- `levy_try::main` meets its contract: what is asked of each call is the figure of 01.
use Rattle.levy_try.proofs.Cases.{p1-to-p5}
use Rattle.levy_try.proofs.main.Goals as goal

pub interval-requires : goal.interval-requires
interval-requires c = p1-to-p5.0

pub interval-requires-2 : goal.interval-requires-2
interval-requires-2 c = p1-to-p5.1

pub interval-requires-3 : goal.interval-requires-3
interval-requires-3 c = p1-to-p5.2

pub interval-requires-4 : goal.interval-requires-4
interval-requires-4 c = p1-to-p5.3

pub interval-requires-5 : goal.interval-requires-5
interval-requires-5 c = p1-to-p5.4
