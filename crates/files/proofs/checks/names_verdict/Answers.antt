-- `files::checks::names_verdict` meets its contract: the correction's rows before j refuse nothing, and the rows passed in the
-- interval lie below its next id.
use Rattle.files.proofs.Named.{own_at, beside_none, beside-next, beside-stops, beside-ends, under-beside}
use borrow.Author.Rules.{rules}
use Rattle.files.proofs.checks.names_verdict.Goals as goal

pub invariant_of-own : goal.invariant_of-own
invariant_of-own c = search own_at

pub loop-j-init : goal.loop-j-init
loop-j-init c = search beside_none

pub seek-i-requires : goal.seek-i-requires
seek-i-requires c = (search rules, search under-beside)

pub returns-then-not-matches_row : goal.returns-then-not-matches_row
returns-then-not-matches_row c = search beside-stops

pub loop-j-preserved : goal.loop-j-preserved
loop-j-preserved c = search beside-next

pub returns : goal.returns
returns c = search beside-ends
