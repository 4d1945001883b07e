-- Arrays of zeros, as the rounds find their marks.
--     zeros-at         every number of one is 0, past its end too
--     zeros-are        an array of 256 whose numbers are all 0 is the array of zeros
--     take-replicate, drop-replicate     its first n, and the rest of it
use Prim.Native.Nat.{ℕ, zero, suc, ◌-◌, ◌≤◌}
use mathlib.Core.Path.{◌≡◌, refl, ap, sym, ◌∙◌}
use mathlib.Core.List.{List, ◌∷◌}
use native.Mathlib.Omega.{arith}
use lib.ListN.{length, take, drop, replicate, length-replicate}
use lib.Seq.{ext_get_or}
use Rattle.columns.specs.Table.{at}

pub zeros-at : (m i : ℕ) → at (replicate m 0) i ≡ 0
zeros-at zero i = refl
zeros-at (suc m) zero = refl
zeros-at (suc m) (suc i) = zeros-at m i

pub zeros-are : (xs : List ℕ) → length xs ≡ 256 → ((i : ℕ) → at xs i ≡ 0) → xs ≡ replicate 256 0
zeros-are xs long blank =
    ext_get_or 0 xs (replicate 256 0) (long ∙ sym (length-replicate {A = ℕ} 256 0)) (λ k l. blank k ∙ sym (zeros-at 256 k))

pub take-replicate : (m n : ℕ) → n ≤ m → take {A = ℕ} n (replicate m 0) ≡ replicate n 0
take-replicate m zero l = refl
take-replicate zero (suc n) l = absurd (omega arith)
take-replicate (suc m) (suc n) l = ap (λ (xs : List ℕ). 0 ∷ xs) (take-replicate m n (omega arith))

pub drop-replicate : (m n : ℕ) → n ≤ m → drop {A = ℕ} n (replicate m 0) ≡ replicate (m - n) 0
drop-replicate m zero l = let e : m - 0 ≡ m = omega arith in rw e
drop-replicate zero (suc n) l = absurd (omega arith)
drop-replicate (suc m) (suc n) l = let e : suc m - suc n ≡ m - n = omega arith in rw e (drop-replicate m n (omega arith))
