-- `abi::wheatrudder_rewrite` meets its contract.
use Rattle.abi.proofs.Told.{rewritten-fits, rewritten-told}
use Rattle.abi.proofs.wheatrudder_rewrite.Goals as goal

pub word-requires : goal.word-requires
word-requires c = rewritten-fits _ _ _ c.rewrite.ensures.value

pub returns : goal.returns
returns c = record { value = rewritten-told _ _ _ c.rewrite.ensures.value _ c.word.ensures; out_after = c.rewrite.ensures.out_after }
