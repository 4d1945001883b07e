-- `settle::market::trade` meets its contract: tier 1, then tier 2 with what is left of the need.
use Rattle.settle.proofs.Trading.{fields-are, sofar-none, sofar-asked, sofar-more, sofar-all}
use Rattle.settle.proofs.market.trade.Goals as goal

pub loop-tier-init : goal.loop-tier-init
loop-tier-init c = search sofar-none

pub call-cleared-requires : goal.call-cleared-requires
call-cleared-requires c = search (sofar-asked, fields-are)

pub loop-tier-preserved : goal.loop-tier-preserved
loop-tier-preserved c = search (sofar-more, fields-are)

pub returns : goal.returns
returns c = search sofar-all
