-- `telling::tell_lines` meets its contract.
use Rattle.telling.proofs.Printed.{no_lines, lines_more, lines-all}
use borrow.Author.Rules.{rules}
use Rattle.telling.proofs.tell_lines.Goals as goal

pub loop-i-init : goal.loop-i-init
loop-i-init c = (search rules, search rules, search no_lines)

pub loop-i-preserved : goal.loop-i-preserved
loop-i-preserved c = (search rules, search rules, search lines_more)

pub returns : goal.returns
returns c = search lines-all
