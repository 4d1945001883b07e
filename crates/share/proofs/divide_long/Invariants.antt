-- `share::divide_long` meets its contract: before digit k the amount without its last k digits is divided.
use Prim.Native.Nat.{◌*◌, ◌/◌, ◌^◌}
use Rattle.share.specs.Steps.{Divided}
use Rattle.share.proofs.divide_long.Given as goal

abbrev pub invariant-loop-k : goal.invariant-loop-k
invariant-loop-k l = Divided (l.amount / 2 ^ l.k * l.weight) l.sum l.d
