-- Loops that fill a column, position by position, with numbers of 32 bits: what holds after i of n positions.
--     Fill                          the loops' invariant: f stands at every position passed, and each number is small
--     fill_on                       one position more
--     fill-small                    after it every number is one of 32 bits
--     fill_is                       a filled copy is what was copied
--     small_at                      a number of such a column
--     open_at, open-end             the column of open weights
--     made_at, paid-on, paid-end    the column of caps that becomes that of payments
--     whole-small                   the sum of such a column fits 64 bits
use Prim.Native.Nat.{ℕ, ◌+◌, ◌^◌, ◌≤◌, ◌<◌}
use mathlib.Core.Path.{◌≡◌, ◌∙◌}
use mathlib.Core.Logic.{⊎_elim}
use mathlib.Core.Bool.{cond}
use mathlib.Core.List.{List}
use native.Mathlib.Omega.{arith}
use lib.Dec.{eqb}
use lib.ListN.{length, set, get_or-eq_default}
use lib.Seq.{get_or-set_other, get_or-set_same, ext_get_or}
use borrow.Author.Count.{below_more}
use Rattle.columns.specs.Sum.{whole}
use Rattle.columns.specs.Table.{at, table, Below}
use Rattle.columns.proofs.Sum.{lt-or-le, sum_bound}
use Rattle.columns.proofs.Table.{table_is}
use Rattle.columns.proofs.Fill.{Reached, reached-next, reached-now}
use Rattle.levy.specs.Rounds.{open_weights}
use Rattle.levy.specs.Asked.{Small, paid_from, Made}

pub record Fill (f : ℕ → ℕ) (start out : List ℕ) (i : ℕ) : Type 0 where
  pub reached : Reached 0 f start out i
  pub small : Below i (λ k. at out k < 2 ^ 32)

module _ (f : ℕ → ℕ) (start out : List ℕ) (i : ℕ) (fill : Fill f start out i) (n : ℕ) (long : length start ≡ n) where
  pub fill_on : i < n → (v : ℕ) → v ≡ f i → v < 2 ^ 32 → Fill f start (set out i v) (i + 1)
  fill_on l v e low =
      record {
        reached = reached-next 0 f start out i v fill.reached (omega (arith, fill.reached.room)) e;
        small =
            below_more (λ (k : ℕ). at (set out i v) k < 2 ^ 32) i
            (λ k q. rw (get_or-set_other out i k v 0 (omega arith)) (fill.small k q))
            (rw (get_or-set_same out i v 0 (omega (arith, fill.reached.room))) low);
      }

  pub fill-small : n ≤ i → Small out
  fill-small q k =
      ⊎_elim (λ (l : k < n). fill.small k (omega arith))
      (λ (m : n ≤ k). let e : at out k ≡ 0 = get_or-eq_default out 0 (omega (arith, fill.reached.room)) in omega arith)
      (lt-or-le k n)

-- what was copied, position by position, is the same column
pub fill_is : (from to out : List ℕ) (i : ℕ) → Fill (at from) to out i → length to ≤ i → length to ≡ length from → out ≡ from
fill_is from to out i fill q long =
    ext_get_or 0 out from (fill.reached.room ∙ long) (λ k l. fill.reached.done k (omega (arith, fill.reached.room)))

pub small_at : (xs : List ℕ) → Small xs → (i : ℕ) → at xs i < 2 ^ 32
small_at xs low i = low i

-- the weight of a position that has not closed
abbrev pub open_at : List ℕ → List ℕ → ℕ → ℕ
open_at weights marks i = cond (eqb (at marks i) 0) (at weights i) 0

pub open-end : (weights marks start out : List ℕ) (i : ℕ) → Fill (open_at weights marks) start out i → length start ≤ i
    → length start ≡ length weights → out ≡ open_weights weights marks
unfolding open_weights
open-end weights marks start out i fill q long =
    table_is 0 out (length weights) (open_at weights marks) (fill.reached.room ∙ long) (λ k l. fill.reached.done k (omega arith))

-- caps become payments, position by position: what stands at the next one is still its cap
module _ (caps₀ marks parts caps : List ℕ) (i : ℕ) (made : Made caps₀ marks parts) (fill : Fill (paid_from caps₀ marks parts) caps₀ caps i)
    (l : i < length parts) where
  pub made_at : cond (eqb (at marks i) 0) (at parts i) (at caps i) < 2 ^ 32
  unfolding paid_from
  made_at = rw (reached-now 0 (paid_from caps₀ marks parts) caps₀ caps i fill.reached) (made.fits i l)

  pub paid-on : (v : ℕ) → v ≡ cond (eqb (at marks i) 0) (at parts i) (at caps i) → Fill (paid_from caps₀ marks parts) caps₀ (set caps i v) (i + 1)
  paid-on v e =
      fill_on (paid_from caps₀ marks parts) caps₀ caps i fill (length parts) made.caps_long l v
      (unfold paid_from in rw (← reached-now 0 (paid_from caps₀ marks parts) caps₀ caps i fill.reached) e) (rw e made_at)

pub paid-end : (caps₀ marks parts caps : List ℕ) (i : ℕ) → Fill (paid_from caps₀ marks parts) caps₀ caps i → length caps₀ ≤ i
    → length caps₀ ≡ length parts → caps ≡ table (length parts) (paid_from caps₀ marks parts)
paid-end caps₀ marks parts caps i fill q long =
    table_is 0 caps (length parts) (paid_from caps₀ marks parts) (fill.reached.room ∙ long) (λ k l. fill.reached.done k (omega arith))

pub whole-small : (xs : List ℕ) → length xs ≤ 256 → Small xs → whole xs < 2 ^ 64
unfolding whole
whole-small xs few low = omega (arith, sum_bound (length xs) 4294967296 (at xs) (λ k l. omega (arith, low k)))
