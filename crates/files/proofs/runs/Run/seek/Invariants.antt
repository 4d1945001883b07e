-- `files::runs::Run::seek` meets its contract: the rows passed have ids below the one sought.
use Prim.Native.Nat.{◌≤◌}
use Rattle.files.specs.Walk.{Under}
use Rattle.files.proofs.runs.Run.seek.Given as goal

abbrev pub invariant-loop-i : goal.invariant-loop-i
invariant-loop-i l = (l.i ≤ l.self.count) × Under l.self.bytes.now l.self.start l.self.size l.i l.id
