-- The laws of the sharing rule, for whoever calls `split`. They hold of every position i, also past the column's end,
-- where weight and share are 0, and of every `first`, unless a law asks that `first` is inside the column.
--     shares_sum         the shares sum to the amount, if a weight is above 0 and `first` is inside
--     shares-within      the same of an amount that is at most the sum of the weights
--     shares-none        all are 0 if no weight is above 0
--     shares-length      as many shares as weights
--     shares_at          what stands in the column at i is the share of i
--     share-near-over    share * whole passes amount * weight by less than whole
--     share-near-short   and falls short of it by less than whole
--     share-zero         a weight of 0 gets 0
--     share-at-most      amount * weight is at most c * whole: the share is at most c
--     share-under        the same, from below c * whole
--     share-le-amount    a share is at most the amount
--     share-le-weight    the amount is at most the sum of the weights: a share is at most its weight
--     share-is-weight    the amount is just that sum: each share is its weight
--     shares-are-weights     the same of the whole column
--     shares-alone       who alone has weight gets all
--     share-more         a larger amount gives nobody less, but for one: of fen that are rounded more cannot be said
--     share-alike        of two equal weights the one whose turn comes first gets as much as the other, or one more
--     share-none, share-sum      shares-none and shares_sum of the share itself
--     split-unique       two results that the contract of `split` allows are equal
-- Each takes amount, weights and first, then the position, then what it asks.
-- For whoever has to show what `split` asks:
--     weight-le          a weight is at most the sum of the weights
use Prim.Native.Nat.{ℕ, ◌+◌, ◌*◌, ◌/◌, ◌%◌, ◌≤◌, ◌<◌}
use mathlib.Core.Path.{◌≡◌, ap, sym, ◌∙◌}
use mathlib.Core.Logic.{⊎_elim}
use mathlib.Core.Bool.{Bool, true, false, cond}
use mathlib.Core.List.{List}
use native.Mathlib.Nat.{eq-zero-or-pos, mul-le-mul_left, mul-le-mul_right, lt_of_mul-lt-mul_right}
use native.Mathlib.Omega.{arith}
use lib.Dec.{ltb}
use lib.ListN.{length, get_or-eq_default}
use borrow.Author.Tests.{lt-ltb, le-ltb, eq-eqb}
use Rattle.columns.specs.Sum.{bit, sum_to, count_to}
use Rattle.columns.specs.Table.{at, table}
use Rattle.columns.proofs.Sum.{lt-or-le, bit_le, sum_same, sum-mul, sum-same-le, count_none}
use Rattle.columns.proofs.Table.{table-length, table_at, table-past, table_same, table-list}
use Rattle.columns.proofs.Whole.{whole-table}
use Rattle.columns.specs.Sum.{whole}
use Rattle.columns.proofs.Unique.{LeavesOne}
use Rattle.share.specs.Share.{quota, rest, turn, rank, left, share, shares, SameOrOneMore}
pub use Rattle.share.proofs.Rests.{weight-le}
use Rattle.share.proofs.split.Reads as split
use Rattle.share.proofs.Order.{rank-turn}
use Rattle.share.proofs.Rests.{some-length, share-is, over, short, shares-all}

-- who has the smaller rank is served if the other is
served : (x y left : ℕ) → x < y → bit (ltb y left) ≤ bit (ltb x left)
served x y left l =
    ⊎_elim (λ (p : y < left). rw (lt-ltb y left p, lt-ltb x left (omega arith)) (omega arith))
    (λ (p : left ≤ y). rw (le-ltb y left p) (omega arith)) (lt-or-le y left)

module _ (a : ℕ) (ws : List ℕ) (first : ℕ) where
  pub share-none : whole ws ≡ 0 → (i : ℕ) → share a ws first i ≡ 0
  unfolding share
  share-none e i = rw (eq-eqb (whole ws) 0 e)

  pub share-near-over : (i : ℕ) → 0 < whole ws → share a ws first i * whole ws < a * at ws i + whole ws
  share-near-over i some = over a ws some first i

  pub share-near-short : (i : ℕ) → 0 < whole ws → a * at ws i < share a ws first i * whole ws + whole ws
  share-near-short i some = short a ws some first i

  pub share-at-most : (i c : ℕ) → a * at ws i ≤ c * whole ws → share a ws first i ≤ c
  share-at-most i c h =
      ⊎_elim (λ (e : whole ws ≡ 0). omega (arith, share-none e i))
      (λ (some : 0 < whole ws).
      let l : share a ws first i < c + 1 = lt_of_mul-lt-mul_right (whole ws) (omega (arith, over a ws some first i)) in omega arith)
      (eq-zero-or-pos (whole ws))

  pub share-under : (i c : ℕ) → a * at ws i < c * whole ws → share a ws first i ≤ c
  share-under i c h = share-at-most i c (omega arith)

  pub share-zero : (i : ℕ) → at ws i ≡ 0 → share a ws first i ≡ 0
  share-zero i e =
      let l : share a ws first i ≤ 0 = share-at-most i 0 (rw e (omega arith)) in omega arith

  pub share-le-amount : (i : ℕ) → share a ws first i ≤ a
  share-le-amount i = share-at-most i a (mul-le-mul_left a (weight-le ws i))

  pub share-le-weight : (i : ℕ) → a ≤ whole ws → share a ws first i ≤ at ws i
  share-le-weight i h = share-at-most i (at ws i) (omega (arith, mul-le-mul_right (at ws i) h))

  pub share-is-weight : (i : ℕ) → a ≡ whole ws → share a ws first i ≡ at ws i
  share-is-weight i e =
      ⊎_elim (λ (z : whole ws ≡ 0). omega (arith, share-none z i, weight-le ws i))
      (λ (some : 0 < whole ws).
      let l : at ws i < share a ws first i + 1 =
      lt_of_mul-lt-mul_right (whole ws) (omega (arith, short a ws some first i, ap (λ (x : ℕ). x * at ws i) e)) in
      omega (arith, share-le-weight i (omega arith)))
      (eq-zero-or-pos (whole ws))

  pub share-alike : (i j : ℕ) → first < length ws → i < length ws → at ws i ≡ at ws j → turn (length ws) first i < turn (length ws) first j
      → SameOrOneMore (share a ws first i) (share a ws first j)
  share-alike i j inside l e t =
      ⊎_elim (λ (z : whole ws ≡ 0). (omega (arith, share-none z i, share-none z j), omega (arith, share-none z i, share-none z j)))
      (λ (some : 0 < whole ws).
      let q : quota a ws i ≡ quota a ws j = unfold quota in ap (λ (w : ℕ). a * w / whole ws) e in
      let r : rest a ws i ≡ rest a ws j = unfold rest in ap (λ (w : ℕ). a * w % whole ws) e in
      let x = share-is a ws some first i in
      let y = share-is a ws some first j in
      let first-served = served (rank a ws first i) (rank a ws first j) (left a ws) (rank-turn a ws first some inside i j l r t) in
      (omega (arith, q, x, y, first-served), omega (arith, q, x, y, bit_le (ltb (rank a ws first i) (left a ws)))))
      (eq-zero-or-pos (whole ws))

  pub shares-length : length (shares a ws first) ≡ length ws
  unfolding shares
  shares-length = table-length (length ws) (share a ws first)

  pub shares_at : (i : ℕ) → at (shares a ws first) i ≡ share a ws first i
  unfolding shares
  shares_at i =
      ⊎_elim (λ (l : i < length ws). table_at 0 (length ws) (share a ws first) i l)
      (λ (l : length ws ≤ i).
      table-past 0 (length ws) (share a ws first) i l ∙ sym (share-zero i (get_or-eq_default ws 0 l)))
      (lt-or-le i (length ws))

  pub shares-none : whole ws ≡ 0 → (i : ℕ) → at (shares a ws first) i ≡ 0
  shares-none e i = shares_at i ∙ share-none e i

  pub share-sum : 0 < whole ws → (0 < length ws → first < length ws) → sum_to (length ws) (share a ws first) ≡ a
  share-sum some inside = shares-all a ws some first (inside (some-length ws some))

  pub shares_sum : 0 < whole ws → (0 < length ws → first < length ws) → whole (shares a ws first) ≡ a
  unfolding shares
  shares_sum some inside = whole-table (length ws) (share a ws first) ∙ share-sum some inside

  pub shares-are-weights : a ≡ whole ws → shares a ws first ≡ ws
  unfolding shares
  shares-are-weights e =
      table_same (length ws) (share a ws first) (at ws) (λ i l. share-is-weight i e) ∙ sym (table-list 0 ws)

  pub shares-within : a ≤ whole ws → (0 < length ws → first < length ws) → whole (shares a ws first) ≡ a
  shares-within h inside =
      ⊎_elim
      (λ (e : whole ws ≡ 0). ap whole (shares-are-weights (omega arith)) ∙ omega arith)
      (λ (some : 0 < whole ws). shares_sum some inside) (eq-zero-or-pos (whole ws))

-- who alone has weight gets all
module _ (a : ℕ) (ws : List ℕ) (first : ℕ) where
  abbrev weighs : ℕ → Bool
  weighs i = ltb 0 (at ws i)

  -- the amount for whoever has weight
  abbrev all : ℕ → ℕ
  all i = cond (ltb 0 (at ws i)) a 0

  -- nobody gets more than that
  share-le-all : (i : ℕ) → share a ws first i ≤ all i
  share-le-all i =
      ⊎_elim (λ (l : 0 < at ws i). rw (lt-ltb 0 (at ws i) l) (share-le-amount a ws first i))
      (λ (l : at ws i ≤ 0). rw (le-ltb 0 (at ws i) l) (omega (arith, share-zero a ws first i (omega arith)))) (lt-or-le 0 (at ws i))

  module _ (one : count_to (length ws) (λ i. ltb 0 (at ws i)) ≡ 1) where
    some : 0 < whole ws
    some =
        ⊎_elim
        (λ (z : whole ws ≡ 0). absurd (omega (arith, count_none (length ws) weighs (λ i l. le-ltb 0 (at ws i) (omega (arith, weight-le ws i))))))
        (λ (l : 0 < whole ws). l) (eq-zero-or-pos (whole ws))

    all-sum : sum_to (length ws) all ≡ a
    unfolding count_to
    all-sum =
        sum_same (length ws) all (λ i. a * bit (weighs i)) (λ i l. times (weighs i)) ∙ sum-mul (length ws) a (λ i. bit (weighs i))
        ∙ rw one (omega arith)
      where
        times : (t : Bool) → cond t a 0 ≡ a * bit t
        times true = omega arith
        times false = omega arith

    pub shares-alone : (0 < length ws → first < length ws) → shares a ws first ≡ table (length ws) (λ i. cond (ltb 0 (at ws i)) a 0)
    unfolding shares
    shares-alone inside =
        table_same (length ws) (share a ws first) all
        (sum-same-le (length ws) (share a ws first) all (λ i l. share-le-all i) (share-sum a ws first some inside ∙ sym all-sum))

pub share-more : (a b : ℕ) (ws : List ℕ) (first second i : ℕ) → a ≤ b → share a ws first i ≤ share b ws second i + 1
share-more a b ws first second i h =
    ⊎_elim (λ (z : whole ws ≡ 0). omega (arith, share-none a ws first z i))
    (λ (some : 0 < whole ws).
    let l : share a ws first i < share b ws second i + 2 =
    lt_of_mul-lt-mul_right (whole ws)
    (omega (arith, over a ws some first i, short b ws some second i, mul-le-mul_right (at ws i) h)) in
    omega arith)
    (eq-zero-or-pos (whole ws))

pub split-unique : LeavesOne split.Learnt (λ κs x y e f. e.1.1.1.0.now ≡ f.1.1.1.0.now)
split-unique κs a x y e f p q = p ∙ sym q
