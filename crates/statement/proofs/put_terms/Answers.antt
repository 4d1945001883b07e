-- `statement::put_terms` meets its contract.
use Rattle.statement.proofs.Topped.{terms-room, terms-put, terms-none}
use borrow.Author.Rules.{rules}
use Rattle.statement.proofs.put_terms.Goals as goal

pub put_fields-requires : goal.put_fields-requires
put_fields-requires c = (search rules, search terms-room)

pub returns-then-form : goal.returns-then-form
returns-then-form c = search terms-put

pub returns-else-form : goal.returns-else-form
returns-else-form c = search terms-none
