-- `settle::stages::first_turn` meets its contract.
use borrow.Author.Tests.{eq-eqb, ne_eqb}
use Rattle.settle.specs.Settlement.{first_turn}
use Rattle.settle.proofs.stages.first_turn.Goals as goal

pub returns-then-n-eq0 : goal.returns-then-n-eq0
unfolding first_turn
returns-then-n-eq0 c = simp (eq-eqb _ _ c.if-n-eq0.true)

pub returns : goal.returns
unfolding first_turn
returns c = simp (ne_eqb _ _ c.if-n-eq0.false, c.from.ensures)
