-- `contents::read` meets its contract, for a refusal and for an acceptance.
use Rattle.std.proofs.Common.{refl}
use Rattle.contents.proofs.Answered.{read-few, read-long, read-refused, read_done}
use Rattle.contents.proofs.reader.read.Goals as goal

pub contents_of-requires : goal.contents_of-requires
contents_of-requires c = (read-few _ _ c.in-Ok.ensures _ refl, read-long _ _ c.in-Ok.ensures _ refl)

pub returns-in-Err : goal.returns-in-Err
returns-in-Err c =
    let is = read-refused _ _ c.in-Err.ensures _ _ _ refl c.zero_contents.ensures in
    record { verdict = is.0; contents = is.1 }

pub returns-in-Ok : goal.returns-in-Ok
returns-in-Ok c =
    let is = read_done _ _ c.in-Ok.ensures _ refl _ c.contents_of.ensures in
    record { verdict = is.0; contents = is.1 }
