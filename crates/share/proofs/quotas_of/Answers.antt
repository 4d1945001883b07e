-- `share::quotas_of` meets its contract: quotas and remainders are filled up to place j of the list.
use Rattle.share.proofs.Steps.{filled_none, weight-in, quota-in, leaves-more, filled_next, filled-end, divisible}
use Rattle.share.proofs.quotas_of.Goals as goal

pub loop-j-init : goal.loop-j-init
loop-j-init c = search filled_none

pub bounds-weights-i : goal.bounds-weights-i
bounds-weights-i c = search weight-in

pub divide-d-requires : goal.divide-d-requires
divide-d-requires c = search divisible

pub bounds-quotas-i : goal.bounds-quotas-i
bounds-quotas-i c = search quota-in

pub overflow_sub-left : goal.overflow_sub-left
overflow_sub-left c = search leaves-more

pub loop-j-preserved : goal.loop-j-preserved
loop-j-preserved c = search filled_next

pub returns : goal.returns
returns c = search filled-end
