-- `levy::pay_out` meets its contract: the positions passed have what they pay, the others their caps.
use Rattle.std.proofs.Common.{rules}
use Rattle.levy.proofs.Fill.{made_at, paid-on, paid-end}
use Rattle.levy.proofs.paying.pay_out.Goals as goal

pub paid_by-requires : goal.paid_by-requires
paid_by-requires c = search (made_at, rules)

pub loop-i-preserved : goal.loop-i-preserved
loop-i-preserved c = search (paid-on, rules)

pub returns : goal.returns
returns c = search (paid-end, rules)
