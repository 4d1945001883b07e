-- `files::runs::Run::seek` meets its contract: the rows passed have ids below the one sought.
use mathlib.Core.Path.{◌≡◌}
use native.Mathlib.Omega.{arith}
use Rattle.files.proofs.Found.{under_next, sought-here, sought-none}
use Rattle.files.proofs.runs.Run.seek.Goals as goal

pub returns-then-id : goal.returns-then-id
returns-then-id c = search sought-here

pub loop-i-preserved : goal.loop-i-preserved
loop-i-preserved c = (omega arith, search under_next)

pub returns : goal.returns
returns c =
    let e : c.loop-i.i ≡ c.args.self.now.count = omega arith in
    rw e at (sought-none _ _ _ _ _ _ c.loop-i.invariant.0 c.loop-i.invariant.1 c.loop-i-test.false)
