-- `files::counts::counting` meets its contract.
use Rattle.std.proofs.Common.{sym}
use Rattle.files.proofs.Told.{told-ok, told-err}
use Rattle.files.proofs.Sourced.{counting-named, counting-none}
use Rattle.files.proofs.counts.counting.Goals as goal

pub named_part-requires : goal.named_part-requires
named_part-requires c = sym c.in-Ok.ensures

pub returns-in-Err : goal.returns-in-Err
returns-in-Err c = search (counting-none, told-err)

pub returns-in-Ok : goal.returns-in-Ok
returns-in-Ok c = search (counting-named, told-ok)
