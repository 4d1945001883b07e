-- `merit::Offers::group_of` meets its contract: the positions passed are written, and sum and number are theirs.
use Rattle.std.proofs.Common.{ℕ, ◌≡◌, ◌+◌, ap, ◌∙◌, ltb, arith}
use mir.Val.{bool_byte}
use Rattle.std.proofs.lemmas.Grind.{common_steps}
use Rattle.merit.proofs.Steps.{banded-none, banded-next, banded-fits, member_is, width_small, banded-counts, group-told}
use Rattle.merit.proofs.Offers.group_of.Goals as goal

pub loop-i-init : goal.loop-i-init
loop-i-init c = search banded-none

pub overflow_add-bands : goal.overflow_add-bands
overflow_add-bands c =
    let some : c.lt.result ≡ ltb 0 c.counted.result = grind (arith, common_steps) in
    let one : c.from-bands.result ≡ bool_byte (ltb 0 c.counted.result) = cc in search banded-fits

pub loop-i-preserved : goal.loop-i-preserved
loop-i-preserved c =
    let some : c.lt.result ≡ ltb 0 c.counted.result = grind (arith, common_steps) in
    let one : c.from-bands.result ≡ bool_byte (ltb 0 c.counted.result) = cc in
    let put : c.into.result ≡ c.counted.result = c.into.ensures ∙ c.from-width.ensures in
    let sum : c.add_assign.new.self.0 ≡ c.loop-i.sum.0 + c.counted.result = c.add_assign.ensures.after ∙ ap (λ (x : ℕ). c.loop-i.sum.0 + x) c.from-width.ensures in
    search (banded-next, member_is, width_small)

pub returns : goal.returns
returns c = search group-told

pub invariant_of-result : goal.invariant_of-result
invariant_of-result c = search banded-counts
