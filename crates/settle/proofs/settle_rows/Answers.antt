-- `settle::settle_rows` meets its contract: too short a buffer gets 11 and is kept, any other holds the statement.
use Rattle.settle.proofs.Answered.{few-rows, head-there, form-there, short-told, short-left, written-told, written-left}
use Rattle.settle.proofs.settle_rows.Goals as goal

pub form_of-form-requires : goal.form_of-form-requires
form_of-form-requires c = (search head-there, search form-there)

pub size_of-size-requires : goal.size_of-size-requires
size_of-size-requires c = search few-rows

pub returns-then-statement-size : goal.returns-then-statement-size
returns-then-statement-size c = record { value = rw c.from.ensures (search short-told); statement_after = search short-left }

pub returns : goal.returns
returns c = record { value = search written-told; statement_after = search written-left }
