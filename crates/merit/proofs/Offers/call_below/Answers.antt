-- `merit::Offers::call_below` meets its contract: the positions passed are written, and the sum is theirs.
use Rattle.std.proofs.Common.{ℕ, ◌≡◌, ◌+◌, ap, ◌∙◌}
use Rattle.merit.proofs.Steps.{grouped-none, grouped-next, cheaper-is, width_small, cheap-told, cheap-sum}
use Rattle.merit.proofs.Offers.call_below.Goals as goal

pub loop-i-init : goal.loop-i-init
loop-i-init c = search grouped-none

pub loop-i-preserved : goal.loop-i-preserved
loop-i-preserved c =
    let put : c.into.result ≡ c.counted.result = c.into.ensures ∙ c.from-width.ensures in
    let sum : c.add_assign.new.self.0 ≡ c.loop-i.sum.0 + c.counted.result = c.add_assign.ensures.after ∙ ap (λ (x : ℕ). c.loop-i.sum.0 + x) c.from-width.ensures in
    search (grouped-next, cheaper-is, width_small)

pub returns : goal.returns
returns c = (search cheap-told, search cheap-sum)
