-- `share::split` meets its contract: without an amount or a weight everybody gets 0, else there is room for the remainders of the list.
use Prim.Native.Nat.{◌<◌, ◌^◌}
use mathlib.Core.Path.{◌≡◌, refl}
use native.Mathlib.Omega.{arith}
use lib.ListN.{length, replicate}
use Rattle.std.specs.List.{sum}
use Rattle.columns.proofs.Whole.{sum_whole}
use Rattle.share.proofs.Handing.{no-amount, no-weight, listed-few, listed-front, quotable}
use borrow.Author.Rules.{rules}
use Rattle.share.proofs.split.Goals as goal

pub returns-then-amount-eq0 : goal.returns-then-amount-eq0
returns-then-amount-eq0 c =
    let e : c.fill.new.self ≡ replicate (length c.args.out.now) 0 = search rules in search no-amount

pub sum-sum-requires-clause-fits : goal.sum-sum-requires-clause-fits
sum-sum-requires-clause-fits c =
    let f : sum c.args.weights.now < 2 ^ 64 = omega (arith, c.requires.fits, sum_whole c.args.weights.now (sum c.args.weights.now) refl) in
    search rules

pub returns-then-sum-eq0 : goal.returns-then-sum-eq0
returns-then-sum-eq0 c =
    let e : c.fill.new.self ≡ replicate (length c.args.out.now) 0 = search rules in
    let s : c.sum-sum.result ≡ sum c.args.weights.now = search rules in
    search (no-weight, sum_whole)

pub slice_bounds-rests-end : goal.slice_bounds-rests-end
slice_bounds-rests-end c = search listed-few

pub slice_bounds-share_out-end : goal.slice_bounds-share_out-end
slice_bounds-share_out-end c = search listed-front

pub share_out-requires : goal.share_out-requires
share_out-requires c =
    let e : c.fill.new.self ≡ replicate (length c.args.out.now) 0 = search rules in
    let s : c.sum-sum.result ≡ sum c.args.weights.now = search rules in
    (search rules, search (quotable, sum_whole))
