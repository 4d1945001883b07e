-- Quotas, remainders and what they leave: the arithmetic under the laws of the sharing rule.
--     weight-le       a weight is at most the sum of the weights
--     some-length     if a weight is above 0 there is a position
--     row, rest_lt    the product taken apart: whole * quota + rest, and the rest is below the whole
--     quotas-le, left_is      the quotas sum to at most the amount, and to the amount with what they leave
--     left_le         at most one for each position is left
--     left-some       at most one for each position with a remainder
--     rest-none       without a remainder a position is not among the first to be served
--     share-is        the share where a weight is above 0
--     over, short     the share is off by less than one
--     shares-all      the shares sum to the amount
use Prim.Native.Nat.{ℕ, ◌+◌, ◌*◌, ◌≤◌, ◌<◌}
use mathlib.Core.Path.{◌≡◌, ap}
use mathlib.Core.Logic.{⊎_elim}
use mathlib.Core.Bool.{true, false}
use mathlib.Core.List.{List}
use native.Mathlib.Nat.{mod-lt, div-add-mod, eq-zero-or-pos, le_of_mul-le-mul_left}
use native.Mathlib.Omega.{arith}
use lib.Dec.{ltb}
use lib.ListN.{length, get_or-eq_default}
use borrow.Author.Tests.{lt-ltb, le-ltb, ne_eqb}
use Rattle.columns.specs.Sum.{bit, sum_to, count_to}
use Rattle.columns.specs.Table.{at}
use Rattle.columns.proofs.Sum.{lt-or-le, sum_same, sum-add, sum-mul, sum_bound, sum-le, term-le, bit_le, count_same, count-sub}
use Rattle.columns.proofs.Rank.{test-or, rank-count, under}
use Rattle.columns.specs.Sum.{whole}
use Rattle.share.specs.Share.{quota, rest, before, rank, left, share}
use Rattle.share.proofs.Order.{key, key_apart, rank-under}

-- a weight is at most the sum
pub weight-le : (ws : List ℕ) (i : ℕ) → at ws i ≤ whole ws
unfolding whole
weight-le ws i =
    ⊎_elim (λ (l : i < length ws). term-le (length ws) (at ws) i l)
    (λ (l : length ws ≤ i). omega (arith, get_or-eq_default ws 0 l)) (lt-or-le i (length ws))

-- if a weight is above 0 there is a position
pub some-length : (ws : List ℕ) → 0 < whole ws → 0 < length ws
unfolding whole
some-length ws some =
    ⊎_elim (λ (e : length ws ≡ 0). absurd (omega (arith, sum_bound (length ws) (whole ws) (at ws) (λ i l. weight-le ws i), ap (λ (n : ℕ). whole ws * n) e)))
    (λ (l : 0 < length ws). l) (eq-zero-or-pos (length ws))

module _ (a : ℕ) (ws : List ℕ) (some : 0 < whole ws) where
  -- the product, taken apart
  pub row : (i : ℕ) → whole ws * quota a ws i + rest a ws i ≡ a * at ws i
  unfolding quota rest
  row i = div-add-mod (a * at ws i) (whole ws)

  pub rest_lt : (i : ℕ) → rest a ws i < whole ws
  unfolding rest
  rest_lt i = mod-lt (a * at ws i) some

  -- the products, taken apart and added up
  rows : whole ws * sum_to (length ws) (quota a ws) + sum_to (length ws) (rest a ws) ≡ a * whole ws
  unfolding whole
  rows =
      omega (
        arith,
        sum-mul (length ws) (whole ws) (quota a ws),
        sum-add (length ws) (λ i. whole ws * quota a ws i) (rest a ws),
        sum_same (length ws) (λ i. whole ws * quota a ws i + rest a ws i) (λ i. a * at ws i) (λ i l. row i),
        sum-mul (length ws) a (at ws),
      )

  -- the quotas do not pass the amount
  pub quotas-le : sum_to (length ws) (quota a ws) ≤ a
  quotas-le = le_of_mul-le-mul_left {k = whole ws} (omega (arith, rows)) some

  pub left_is : sum_to (length ws) (quota a ws) + left a ws ≡ a
  unfolding left
  left_is = omega (arith, quotas-le)

  left-rests : whole ws * left a ws ≡ sum_to (length ws) (rest a ws)
  left-rests = omega (arith, rows, ap (λ (x : ℕ). whole ws * x) left_is)

  pub left_le : left a ws ≤ length ws
  left_le =
      le_of_mul-le-mul_left {k = whole ws}
      (omega (arith, left-rests, sum_bound (length ws) (whole ws) (rest a ws) (λ i l. omega (arith, rest_lt i)))) some

  -- no more are left than there are positions with a remainder
  pub left-some : left a ws ≤ count_to (length ws) (λ i. ltb 0 (rest a ws i))
  unfolding count_to
  left-some =
      le_of_mul-le-mul_left {k = whole ws}
      (omega (
        arith,
        left-rests,
        sum-mul (length ws) (whole ws) (λ i. bit (ltb 0 (rest a ws i))),
        sum-le (length ws) (rest a ws) (λ i. whole ws * bit (ltb 0 (rest a ws i))) (λ i l. each i),
      ))
      some
    where
      each : (i : ℕ) → rest a ws i ≤ whole ws * bit (ltb 0 (rest a ws i))
      each i =
          ⊎_elim (λ (e : rest a ws i ≡ 0). omega arith) (λ (l : 0 < rest a ws i). rw (lt-ltb 0 (rest a ws i) l) (omega (arith, rest_lt i)))
          (eq-zero-or-pos (rest a ws i))

  pub rest-none : (first i : ℕ) → rest a ws i ≡ 0 → left a ws ≤ rank a ws first i
  unfolding rank before
  rest-none first i e =
      omega (
        arith,
        left-some,
        count-sub (length ws) (λ j. ltb 0 (rest a ws j)) (λ j. before a ws first j i) (λ j l f. rw (e, f)),
      )

  pub share-is : (first i : ℕ) → share a ws first i ≡ quota a ws i + bit (ltb (rank a ws first i) (left a ws))
  unfolding share
  share-is first i = rw (ne_eqb (whole ws) 0 (omega arith))

  -- one is added only where there is a remainder
  more-rest : (first i : ℕ) → bit (ltb (rank a ws first i) (left a ws)) ≤ rest a ws i
  more-rest first i =
      ⊎_elim (λ (e : rest a ws i ≡ 0). rw (le-ltb (rank a ws first i) (left a ws) (rest-none first i e)) (omega arith))
      (λ (l : 0 < rest a ws i). omega (arith, bit_le (ltb (rank a ws first i) (left a ws)))) (eq-zero-or-pos (rest a ws i))

  pub over : (first i : ℕ) → share a ws first i * whole ws < a * at ws i + whole ws
  over first i =
      rw (share-is first i)
      (⊎_elim (λ (e : ltb (rank a ws first i) (left a ws) ≡ true). rw e (omega (arith, row i, more-rest first i, ap bit e)))
      (λ (e : ltb (rank a ws first i) (left a ws) ≡ false). rw e (omega (arith, row i)))
      (test-or (ltb (rank a ws first i) (left a ws))))

  pub short : (first i : ℕ) → a * at ws i < share a ws first i * whole ws + whole ws
  short first i =
      rw (share-is first i)
      (⊎_elim (λ (e : ltb (rank a ws first i) (left a ws) ≡ true). rw e (omega (arith, row i, rest_lt i)))
      (λ (e : ltb (rank a ws first i) (left a ws) ≡ false). rw e (omega (arith, row i, rest_lt i)))
      (test-or (ltb (rank a ws first i) (left a ws))))

  pub shares-all : (first : ℕ) → first < length ws → sum_to (length ws) (share a ws first) ≡ a
  unfolding count_to
  shares-all first inside =
      omega (
        arith,
        left_is,
        sum_same (length ws) (share a ws first) (λ i. quota a ws i + bit (ltb (rank a ws first i) (left a ws))) (λ i l. share-is first i),
        sum-add (length ws) (quota a ws) (λ i. bit (ltb (rank a ws first i) (left a ws))),
        count_same (length ws) (λ i. ltb (rank a ws first i) (left a ws))
            (λ i. ltb (under (length ws) (key a ws first) (key a ws first i)) (left a ws))
            (λ i l. ap (λ (x : ℕ). ltb x (left a ws)) (rank-under a ws first some inside i)),
        rank-count (length ws) (key a ws first) (key_apart a ws first some inside) (left a ws) left_le,
      )
