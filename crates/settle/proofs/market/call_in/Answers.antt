-- `settle::market::call_in` meets its contract: the calls replace the widths, and are all 0 where nothing is needed.
use Rattle.std.proofs.Common.{◌≡◌, arith}
use Rattle.std.proofs.lemmas.Grind.{common_steps}
use Rattle.settle.proofs.Tiers.{tier-unneeded, calls-lined, tier-called}
use Rattle.settle.proofs.market.call_in.Goals as goal

pub returns-then-eq : goal.returns-then-eq
returns-then-eq c = let none : c.args.need.0 ≡ 0 = grind (arith, common_steps) in search tier-unneeded

pub put_column-requires-2 : goal.put_column-requires-2
put_column-requires-2 c =
    let asked = c.requires in
    calls-lined _ _ _ _ asked.0 _ _ _ c.clear_in-cleared.ensures

pub returns : goal.returns
returns c = search tier-called
