-- `files_try::answer` meets its contract.
use Rattle.files_try.specs.Tried.{answer_of}
use Rattle.files_try.proofs.answer.Goals as goal

pub returns : goal.returns
unfolding answer_of
returns c = cc
