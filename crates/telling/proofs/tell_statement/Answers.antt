-- `telling::tell_statement` meets its contract.
use Rattle.telling.proofs.Printed.{part-long, part-lines, part-few, statement-placed}
use borrow.Author.Rules.{rules}
use Rattle.telling.proofs.tell_statement.Goals as goal

pub overflow_sub-body : goal.overflow_sub-body
overflow_sub-body c = search part-long

pub tell_lines-requires : goal.tell_lines-requires
tell_lines-requires c =
    let few = part-few _ _ _ c.marked.ensures c.extra_of-extra.ensures.0 c.requires.0 in
    (search part-lines, search rules)

pub returns : goal.returns
returns c = search statement-placed
