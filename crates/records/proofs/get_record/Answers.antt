-- `records::get_record` meets its contract: the fields before field i are read.
use Rattle.records.proofs.Got.{width_narrow, got-none, got-room, got-next, got-all, got-fits}
use Rattle.records.proofs.get_record.Goals as goal

pub loop-i-init : goal.loop-i-init
loop-i-init c = search got-none

pub number_at-requires : goal.number_at-requires
number_at-requires c = (search got-room, search width_narrow)

pub loop-i-preserved : goal.loop-i-preserved
loop-i-preserved c = search got-next

pub returns : goal.returns
returns c = (search got-all, search got-fits)
