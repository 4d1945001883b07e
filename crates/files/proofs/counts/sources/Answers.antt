-- `files::counts::sources` meets its contract: the first i sources are put, and the rows passed in the correction lie below the next id.
use Prim.Native.Nat.{◌<◌}
use Rattle.files.proofs.Accepted.{accepted-long, accepted-theirs}
use Rattle.files.proofs.Sourced.{sourced-none, sourced-next, sourced-ends, under-sourced, theirs-of, few-of, own-small, own-found}
use borrow.Author.Rules.{rules}
use Rattle.files.proofs.counts.sources.Goals as goal

pub named_rows-m-requires : goal.named_rows-m-requires
named_rows-m-requires c = search accepted-theirs

pub rows_from-start-requires : goal.rows_from-start-requires
rows_from-start-requires c = search accepted-long

pub invariant_of-theirs : goal.invariant_of-theirs
invariant_of-theirs c = search theirs-of

pub invariant_of-own : goal.invariant_of-own
invariant_of-own c = search own-found

pub loop-i-init : goal.loop-i-init
loop-i-init c = search sourced-none

pub seek-j-requires : goal.seek-j-requires
seek-j-requires c = (search rules, search under-sourced)

pub source_at-requires : goal.source_at-requires
source_at-requires c = search few-of

pub offset_bounds-out-i : goal.offset_bounds-out-i
offset_bounds-out-i c = let l : c.loop-i.i < 256 = search own-small in search rules

pub bounds-out-i : goal.bounds-out-i
bounds-out-i c = let l : c.loop-i.i < 256 = search own-small in search rules

pub loop-i-preserved : goal.loop-i-preserved
loop-i-preserved c = search sourced-next

pub returns : goal.returns
returns c = search sourced-ends
