-- `files::counts::named_part` meets its contract.
use Rattle.files.proofs.Accepted.{accepted-long, accepted-theirs}
use Rattle.files.proofs.Sourced.{theirs-of, under_none, has-below, named-theirs, named-own, named_none, own-found}
use borrow.Author.Rules.{rules}
use Rattle.files.proofs.counts.named_part.Goals as goal

pub named_rows-m-requires : goal.named_rows-m-requires
named_rows-m-requires c = search accepted-theirs

pub invariant_of-theirs : goal.invariant_of-theirs
invariant_of-theirs c = search theirs-of

pub seek-j-requires : goal.seek-j-requires
seek-j-requires c = (search rules, under_none _ _ _ _)

pub part-requires : goal.part-requires
part-requires c = search has-below

pub returns-then-has : goal.returns-then-has
returns-then-has c = search named-theirs

pub rows_from-start-requires : goal.rows_from-start-requires
rows_from-start-requires c = search accepted-long

pub invariant_of-own : goal.invariant_of-own
invariant_of-own c = search own-found

pub seek-i-requires : goal.seek-i-requires
seek-i-requires c = (search rules, under_none _ _ _ _)

pub part-requires-then-has-2 : goal.part-requires-then-has-2
part-requires-then-has-2 c = search has-below

pub returns-then-has-2 : goal.returns-then-has-2
returns-then-has-2 c = search named-own

pub returns : goal.returns
returns c = search named_none
