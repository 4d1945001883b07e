-- `contents::write` meets its contract, for a refusal and for bytes written.
use Rattle.std.proofs.Common.{refl}
use Rattle.std.proofs.lemmas.Result.{err_from_is_err_and}
use Rattle.contents.proofs.Answered.{write-few, write-room, refused-buffer, done-buffer}
use Rattle.contents.proofs.writer.write.Goals as goal

pub put_contents-requires : goal.put_contents-requires
put_contents-requires c = (write-few _ _ _ c.in_ok-size.ensures _ refl, write-room _ _ _ c.in_ok-size.ensures _ refl)

pub returns-in_err-size : goal.returns-in_err-size
returns-in_err-size c =
    let p = err_from_is_err_and c.from_residual.result c.from_residual.ensures.1 in
    record { value = rw (p.1, p.2) c.in_err-size.ensures; out_after = refused-buffer _ _ _ c.in_err-size.ensures _ _ refl }

pub returns : goal.returns
returns c = record { value = c.in_ok-size.ensures; out_after = done-buffer _ _ _ c.in_ok-size.ensures _ refl _ c.put_contents.ensures }
