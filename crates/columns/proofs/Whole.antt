-- The sum of a column.
--     whole_is           it is the sum of what stands at its positions
--     whole-table        the same of a column that is a table
--     whole-bound        numbers of at most b: their sum is at most b * length
--     sum_front          std's sum of f over a front of it is the sum of f of what stands at the front's positions
--     sum_by_is          the same over all of it
--     sum_whole          so what is std's sum of a column is its sum
use Prim.Native.Nat.{ℕ, zero, suc, ◌*◌, ◌≤◌}
use mathlib.Core.Path.{◌≡◌, refl, ap, sym, ◌∙◌}
use mathlib.Core.List.{List}
use native.Mathlib.Numerals.{add-one}
use native.Mathlib.Omega.{arith}
use lib.ListN.{length, take}
use Rattle.std.specs.List.{sum, sum_by}
use Rattle.std.proofs.lemmas.List.Sums.{sum_by_more}
use lib.Seq.{take-length}
use native.Mathlib.Nat.{le_refl}
use Rattle.columns.specs.Sum.{sum_to, whole}
use Rattle.columns.specs.Table.{at, table}
use Rattle.columns.proofs.Sum.{sum_same, sum_bound}
use Rattle.columns.proofs.Table.{table-length, table_at}

pub whole_is : (ws : List ℕ) → whole ws ≡ sum_to (length ws) (at ws)
unfolding whole
whole_is ws = refl

pub whole-table : (n : ℕ) (f : ℕ → ℕ) → whole (table n f) ≡ sum_to n f
whole-table n f =
    whole_is (table n f) ∙ rw table-length (sum_same n (at (table n f)) f (λ i l. table_at 0 n f i l))

pub whole-bound : (ws : List ℕ) (b : ℕ) → ((i : ℕ) → at ws i ≤ b) → whole ws ≤ b * length ws
unfolding whole
whole-bound ws b h = sum_bound (length ws) b (at ws) (λ i l. h i)

pub sum_front : (f : ℕ → ℕ) (ws : List ℕ) (n : ℕ) → n ≤ length ws → sum_by f (take n ws) ≡ sum_to n (λ k. f (at ws k))
unfolding sum_to
sum_front f ws zero l = refl
sum_front f ws (suc n) l = rw (← add-one) (omega (arith, sum_by_more f ws n 0 (omega arith), sum_front f ws n (omega arith)))

pub sum_by_is : (f : ℕ → ℕ) (ws : List ℕ) → sum_by f ws ≡ sum_to (length ws) (λ k. f (at ws k))
sum_by_is f ws = ap (sum_by f) (sym (take-length ws)) ∙ sum_front f ws (length ws) (le_refl _)

pub sum_whole : (ws : List ℕ) (s : ℕ) → s ≡ sum ws → s ≡ whole ws
unfolding whole
sum_whole ws s e = e ∙ sum_by_is (λ (x : ℕ). x) ws
