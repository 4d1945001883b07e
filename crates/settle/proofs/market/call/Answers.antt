-- `settle::market::call` meets its contract: it only lends columns.
use Rattle.settle.proofs.Tiers.{front-offered, asked-front, lent-front, called-front}
use Rattle.settle.proofs.market.call.Goals as goal

pub slice_bounds-call_in-end : goal.slice_bounds-call_in-end
slice_bounds-call_in-end c = search front-offered

pub slice_bounds-call_in-end-2 : goal.slice_bounds-call_in-end-2
slice_bounds-call_in-end-2 c = search front-offered

pub slice_bounds-call_in-end-3 : goal.slice_bounds-call_in-end-3
slice_bounds-call_in-end-3 c = search front-offered

pub call_in-requires : goal.call_in-requires
call_in-requires c = search (asked-front, lent-front)

pub returns : goal.returns
returns c = search called-front
