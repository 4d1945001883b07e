-- `share::line_of` meets its contract: enough remainders reach lo, too few reach hi, until the two are neighbours.
use Prim.Native.Nat.{◌<◌}
use mathlib.Core.Path.{◌≡◌}
use native.Mathlib.Omega.{arith}
use Rattle.std.proofs.Common.{rules}
use Rattle.share.proofs.Serving.{halved_none, line-exact}
use Rattle.share.proofs.line_of.Goals as goal

pub loop-hi-init : goal.loop-hi-init
loop-hi-init c = search halved_none

pub returns-in-Equal : goal.returns-in-Equal
returns-in-Equal c =
    let inside : c.loop-hi.lo < c.midpoint-mid.result = omega arith in
    let exact : c.reach-count.result ≡ c.args.left = search rules in
    search line-exact
