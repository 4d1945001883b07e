-- `merit::call_tier` meets its contract: a need of 0 calls nobody; where all bands do not pass it they are called in full.
use Rattle.std.proofs.Common.{◌≡◌, ◌≤◌, arith}
use Rattle.std.proofs.lemmas.Grind.{common_steps}
use Rattle.merit.specs.Walk.{past}
use Rattle.merit.proofs.Walking.{ended-unneeded, ended-full}
use Rattle.merit.proofs.call_tier.Goals as goal

pub returns-then-eq : goal.returns-then-eq
returns-then-eq c = let none : c.args.need.0 ≡ 0 = grind (arith, common_steps) in search ended-unneeded

pub returns-then-le : goal.returns-then-le
returns-then-le c = let over : past ≤ c.margin-start.result.0 = grind (arith, common_steps) in search ended-full
