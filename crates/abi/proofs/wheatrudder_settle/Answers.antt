-- `abi::wheatrudder_settle` meets its contract.
use Rattle.abi.proofs.Told.{settled-packs, settled-told}
use Rattle.abi.proofs.wheatrudder_settle.Goals as goal

pub word-requires : goal.word-requires
word-requires c = settled-packs _ _ _ _ c.settle.ensures.value

pub returns : goal.returns
returns c =
    record { value = settled-told _ _ _ _ c.settle.ensures.value _ c.word.ensures; statement_after = c.settle.ensures.statement_after }
