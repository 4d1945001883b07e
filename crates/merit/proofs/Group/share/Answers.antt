-- `merit::Group::share` meets its contract: a group within what is left is called in full, one band alone for what is left, any other shares it.
use Rattle.std.proofs.Common.{◌≤◌, ◌<◌, arith}
use Rattle.std.proofs.lemmas.Grind.{common_steps}
use Rattle.merit.proofs.Steps.{called-in-full, called-alone, called-in-part}
use Rattle.merit.proofs.Group.share.Goals as goal

pub returns-then-le : goal.returns-then-le
returns-then-le c = let lasts : c.args.self.sum.0 ≤ c.args.left.0 = grind (arith, common_steps) in search called-in-full

pub returns-then-self-eq1 : goal.returns-then-self-eq1
returns-then-self-eq1 c = let short : c.args.left.0 < c.args.self.sum.0 = grind (arith, common_steps) in search called-alone

pub returns : goal.returns
returns c = let short : c.args.left.0 < c.args.self.sum.0 = grind (arith, common_steps) in search called-in-part
