-- `merit::Offers::below` meets its contract: the sum is that of the rows passed.
use Rattle.std.proofs.Common.{ℕ, ◌+◌, ap, ◌∙◌, rules, length-append, inl, inr}
use Rattle.merit.proofs.Steps.{summed-none, paired-none, paired-next, paired-end, below-told}
use Rattle.merit.proofs.Offers.below.Goals as goal

pub loop-width-init : goal.loop-width-init
loop-width-init c = (search summed-none, paired-none _ _ _ _ (search rules) (search rules))

pub loop-width-preserved : goal.loop-width-preserved
loop-width-preserved c =
    paired-next _ _ _ _ _ c.args.self.fit c.loop-width.invariant.1 _ _ c.loop-width.invariant.0 _ _ _ _ _ _ _ (length-append _ _)
    c.in-Some.ensures.steps.0 c.in-Some.ensures.steps.1 c.counted.ensures
    (c.add_assign.ensures.after ∙ ap (λ (x : ℕ). c.loop-width.sum.0 + x) c.from.ensures)

pub returns : goal.returns
returns c =
    let passed = paired-end _ _ _ _ _ c.args.self.fit c.loop-width.invariant.1
    (elim c.in-None.ensures.steps [ inl u ↦ inl u.1.0 | inr u ↦ inr u.1.0 ]) in
    search below-told
