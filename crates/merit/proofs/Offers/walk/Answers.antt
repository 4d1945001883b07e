-- `merit::Offers::walk` meets its contract: what was called so far is what the definition calls below this bid.
use Rattle.std.proofs.Common.{ℕ, ◌≡◌, ◌+◌, ap, ◌∙◌, ◌≤◌, ◌<◌}
use Rattle.std.proofs.lemmas.Grind.{common_steps}
use Rattle.columns.specs.Table.{at}
use Rattle.merit.specs.Walk.{past}
use native.Mathlib.Omega.{arith}
use Rattle.merit.proofs.Next.{next-less}
use Rattle.merit.proofs.Walking.{walked-first, walked_next}
use Rattle.merit.proofs.Walking.{turned-first, turned-next, callable, ended-met, ended-past}
use borrow.Author.Rules.{rules}
use Rattle.merit.proofs.Offers.walk.Goals as goal

pub walk-init : goal.walk-init
walk-init c = (search walked-first, search rules, search rules)

pub loop-i-init : goal.loop-i-init
loop-i-init c = search turned-first

pub sub-left-requires : goal.sub-left-requires
sub-left-requires c = omega (arith, (callable _ _ _ _ _ _ c.loop-i.invariant (search rules)).covered)

pub loop-i-preserved : goal.loop-i-preserved
loop-i-preserved c =
    let put : c.into.result ≡ at c.loop-i.called c.loop-i.i + c.from_wide-part.result.0 =
    c.into.ensures ∙ c.add.ensures ∙ ap (λ (x : ℕ). x + c.from_wide-part.result.0) c.from.ensures in
    rw put (search turned-next)

pub walk-smaller : goal.walk-smaller
walk-smaller c = let more : c.walk.bid.0 < past = grind (arith, common_steps) in search next-less

pub walk-preserved : goal.walk-preserved
walk-preserved c =
    let more : c.walk.bid.0 < past = grind (arith, common_steps) in (search walked_next, search rules, search rules)

pub returns-after-walk : goal.returns-after-walk
returns-after-walk c = let over : past ≤ c.walk.bid.0 = grind (arith, common_steps) in search ended-past

pub returns-then-eq : goal.returns-then-eq
returns-then-eq c =
    let met : c.sub-left.result.0 ≡ 0 = grind (arith, common_steps) in
    let put : c.into.result ≡ at c.loop-i.called c.loop-i.i + c.from_wide-part.result.0 =
    c.into.ensures ∙ c.add.ensures ∙ ap (λ (x : ℕ). x + c.from_wide-part.result.0) c.from.ensures in
    rw put (search ended-met)
