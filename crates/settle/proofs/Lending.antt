-- Fronts of fresh arrays, lent as columns of n numbers.
--   front-count, front-blank      such a front has n numbers, all of them 0
use Prim.Native.Nat.{ℕ, ◌≤◌}
use mathlib.Core.Path.{◌≡◌, ap, ◌∙◌}
use mathlib.Core.List.{List}
use lib.ListN.{length, take, replicate}
use lib.Seq.{length-take-le}
use Rattle.columns.specs.Table.{at}
use Rattle.levy.proofs.Arrays.{zeros-at, take-replicate}

-- a fresh array
abbrev pub fresh : List ℕ
fresh = replicate 256 0

pub front-count : (n : ℕ) → n ≤ 256 → length (take {A = ℕ} n fresh) ≡ n
front-count n l = length-take-le n fresh l

pub front-blank : (n i : ℕ) → n ≤ 256 → at (take n fresh) i ≡ 0
front-blank n i l = ap (λ (xs : List ℕ). at xs i) (take-replicate 256 n l) ∙ zeros-at n i
