-- `records::put_bytes` meets its contract: so far the first i elements of the source are put.
use mathlib.Core.Path.{◌≡◌}
use lib.ListN.{length, take}
use Rattle.records.specs.Buffer.{put}
use Rattle.records.proofs.put_bytes.Given as goal

abbrev pub invariant-loop-i : goal.invariant-loop-i
invariant-loop-i l = (length l.out ≡ length l.initial.out) × (l.out ≡ put l.initial.out l.at (take l.i l.src))
