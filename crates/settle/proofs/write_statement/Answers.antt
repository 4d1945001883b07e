-- `settle::write_statement` meets its contract.
use Rattle.settle.proofs.Answered.{head-over}
use Rattle.settle.proofs.write_statement.Goals as goal

pub returns : goal.returns
returns c = search head-over
