-- `statement::front_fields` meets its contract: the fields that it is handed, in order.
use Rattle.statement.proofs.front_fields.Goals as goal

pub returns : goal.returns
returns c = cc
