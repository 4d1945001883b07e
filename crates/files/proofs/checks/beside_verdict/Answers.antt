-- `files::checks::beside_verdict` meets its contract.
use Rattle.files.proofs.Named.{own-long, bad-time, good-time}
use borrow.Author.Rules.{rules}
use Rattle.files.proofs.checks.beside_verdict.Goals as goal

pub same_time-requires : goal.same_time-requires
same_time-requires c = record { head_size_in_bounds = search own-long; correction_head_size_in_bounds = search rules }

pub returns-then-not-same_time : goal.returns-then-not-same_time
returns-then-not-same_time c = rw c.from.ensures (search bad-time)

pub returns : goal.returns
returns c = search good-time
