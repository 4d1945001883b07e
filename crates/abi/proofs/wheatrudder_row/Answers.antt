-- `abi::wheatrudder_row` meets its contract, for a buffer that is too short and for one with room.
use Rattle.abi.proofs.Told.{short-packs, part-packs, short-told, short-buffer, copied-told, copied-made}
use Rattle.abi.proofs.wheatrudder_row.Goals as goal

pub word-requires : goal.word-requires
word-requires c = rw c.from.ensures short-packs

pub returns-then-out-part : goal.returns-then-out-part
returns-then-out-part c = record {
  value = short-told _ _ _ _ c.counting-part.ensures _ _ c.if-out-part.true (rw c.from.ensures at c.word.ensures);
  out_after = search short-buffer;
}

pub word-requires-2 : goal.word-requires-2
word-requires-2 c = search part-packs

pub returns : goal.returns
returns c = record { value = search copied-told; out_after = search copied-made }
