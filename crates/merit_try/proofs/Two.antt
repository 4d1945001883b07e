-- Two rows are few enough, and small widths and bids small enough, for `merit::call_tier`.
use Prim.Native.Nat.{ℕ, zero, suc, ◌≤◌, zero-le}
use mathlib.Core.Path.{refl}
use mathlib.Core.List.{[], ◌∷◌}
use native.Mathlib.Omega.{arith}
use Rattle.columns.specs.Table.{at}
use Rattle.merit.specs.Ready.{Ready}

two_at : (x y m : ℕ) → x ≤ m → y ≤ m → (i : ℕ) → at (x ∷ y ∷ []) i ≤ m
two_at x y m h k zero = h
two_at x y m h k (suc zero) = k
two_at x y m h k (suc (suc i)) = zero-le

pub two_ready : (w x a b : ℕ) → w ≤ 250000 → x ≤ 250000 → a ≤ 65535 → b ≤ 65535 → Ready (w ∷ x ∷ []) (a ∷ b ∷ []) 0 (0 ∷ 0 ∷ [])
two_ready w x a b h k l m =
    record {
      columns =
          record {
            few = omega arith;
            long = refl;
            narrow = two_at w x 250000 h k;
            low = λ i. omega (arith, two_at a b 65535 l m i);
          };
      inside = λ l. omega arith;
      room = refl;
      blank = λ i. omega (arith, two_at 0 0 0 zero-le zero-le i);
    }
