-- Bands that stand at keys: what stands before a key, what stands at it, and the sharing of what is left at each key. Twice used: with
-- orders as keys for both tiers (proofs/Groups.antt), with bids for one (proofs/OneTier.antt).
--     before-next     what stands before the next key
--     before-rise     what stands before a key rises with it
--     before-skip     and is the same up to the next key that a row has
--     before-all      past every key stand all bands
--     peers-..        the bands of one key: as many as rows; at each row its width if it is of that key, else 0
--     shared-le       a band gets at most its width
--     shared-part     what the sharing at key k gives row i: what it gets if it is of that key, else 0
--     shared-sum      the bands of one key together get what is left there, at most their widths
--     shared-full     a band gets its width if enough is left for all of its key
--     shared_alike    of two bands of one key and width the one whose turn comes first gets as much as the other, or one more
use Prim.Native.Nat.{ℕ, suc, ◌+◌, ◌≤◌, ◌<◌, min, zero-le}
use mathlib.Core.Path.{◌≡◌, refl, ap, sym, ◌∙◌}
use mathlib.Core.Logic.{⊎_elim}
use mathlib.Core.Bool.{Bool, true, false, cond}
use mathlib.Core.List.{List}
use native.Mathlib.Nat.{le_refl, eq-zero-or-pos, min-le_left, min-le_right}
use native.Mathlib.Omega.{arith}
use lib.Dec.{ltb, eqb}
use lib.ListN.{length}
use borrow.Author.Tests.{lt-ltb, le-ltb, eq-eqb, ne_eqb, eqb-true, eqb-false}
use Rattle.columns.specs.Sum.{sum_to, whole}
use Rattle.columns.specs.Table.{at, table, Below}
use Rattle.columns.proofs.Sum.{lt-or-le, sum_same, sum-add, sum-le, sum-zero}
use Rattle.columns.proofs.Rank.{test-or}
use Rattle.columns.proofs.Table.{table-length, table_at, table-past}
use Rattle.columns.proofs.Whole.{whole-table}
use Rattle.share.specs.Share.{turn, share, SameOrOneMore}
use Rattle.share.proofs.Laws.{share-alike, share-zero, share-le-amount, share-le-weight, share-is-weight, share-sum}

-- what is before the next key is before this one, or at it
pub cond-next : (o k w : ℕ) → cond (ltb o (suc k)) w 0 ≡ cond (ltb o k) w 0 + cond (eqb o k) w 0
cond-next o k w =
    ⊎_elim (λ (l : o < k). rw (lt-ltb o (suc k) (omega arith), lt-ltb o k l, ne_eqb o k (omega arith)) (omega arith))
    (λ (m : k ≤ o). ⊎_elim
    (λ (l : k < o). rw (le-ltb o (suc k) (omega arith), le-ltb o k m, ne_eqb o k (omega arith)) (omega arith))
    (λ (n : o ≤ k). rw (lt-ltb o (suc k) (omega arith), le-ltb o k m, eq-eqb o k (omega arith)) (omega arith))
    (lt-or-le k o)) (lt-or-le o k)

pub cond-le : (t : Bool) (w : ℕ) → cond t w 0 ≤ w
cond-le true w = le_refl w
cond-le false w = zero-le

cond-rise : (o j k w : ℕ) → j ≤ k → cond (ltb o j) w 0 ≤ cond (ltb o k) w 0
cond-rise o j k w h =
    ⊎_elim (λ (l : o < j). rw (lt-ltb o j l, lt-ltb o k (omega arith)) (le_refl w))
    (λ (m : j ≤ o). rw (le-ltb o j m) zero-le) (lt-or-le o j)

-- where no key lies between j and k, what is before k is before j
pub cond-skip : (o j k w : ℕ) → j ≤ k → (j ≤ o → k ≤ o) → cond (ltb o j) w 0 ≡ cond (ltb o k) w 0
cond-skip o j k w h none =
    ⊎_elim (λ (l : o < j). rw (lt-ltb o j l, lt-ltb o k (omega arith)))
    (λ (m : j ≤ o). rw (le-ltb o j m, le-ltb o k (none m))) (lt-or-le o j)

module _ (n : ℕ) (key width : ℕ → ℕ) where
  -- the widths of the bands before key k, added up
  unfoldable pub before : ℕ → ℕ
  before k = sum_to n (λ i. cond (ltb (key i) k) (width i) 0)

  -- the bands of key k: their widths, and 0 for every other row
  unfoldable pub peers : ℕ → List ℕ
  peers k = table n (λ i. cond (eqb (key i) k) (width i) 0)

  pub peers-length : (k : ℕ) → length (peers k) ≡ n
  unfolding peers
  peers-length k = table-length n (λ i. cond (eqb (key i) k) (width i) 0)

  pub peers-at : (k i : ℕ) → i < n → at (peers k) i ≡ cond (eqb (key i) k) (width i) 0
  unfolding peers
  peers-at k i l = table_at 0 n (λ j. cond (eqb (key j) k) (width j) 0) i l

  pub peers-past : (k i : ℕ) → n ≤ i → at (peers k) i ≡ 0
  unfolding peers
  peers-past k i l = table-past 0 n (λ j. cond (eqb (key j) k) (width j) 0) i l

  peers-le : (k i : ℕ) → at (peers k) i ≤ width i
  peers-le k i =
      ⊎_elim (λ (l : i < n). rw (peers-at k i l) (cond-le (eqb (key i) k) (width i)))
      (λ (l : n ≤ i). omega (arith, peers-past k i l)) (lt-or-le i n)

  peers-here : (i : ℕ) → i < n → at (peers (key i)) i ≡ width i
  peers-here i l = peers-at (key i) i l ∙ rw (eq-eqb (key i) (key i) refl)

  peers-not : (k i : ℕ) → (key i ≡ k → ⊥) → at (peers k) i ≡ 0
  peers-not k i h =
      ⊎_elim (λ (l : i < n). peers-at k i l ∙ rw (ne_eqb (key i) k h)) (λ (l : n ≤ i). peers-past k i l) (lt-or-le i n)

  pub peers-sum : (k : ℕ) → whole (peers k) ≡ sum_to n (λ i. cond (eqb (key i) k) (width i) 0)
  unfolding peers
  peers-sum k = whole-table n (λ i. cond (eqb (key i) k) (width i) 0)

  pub peers-none : (k : ℕ) → ((i : ℕ) → key i ≡ k → ⊥) → whole (peers k) ≡ 0
  peers-none k h =
      peers-sum k ∙ sum-zero n (λ i. cond (eqb (key i) k) (width i) 0) (λ i l. rw (ne_eqb (key i) k (h i)))

  pub before-next : (k : ℕ) → before (suc k) ≡ before k + whole (peers k)
  unfolding before
  before-next k =
      sum_same n (λ i. cond (ltb (key i) (suc k)) (width i) 0)
      (λ i. cond (ltb (key i) k) (width i) 0 + cond (eqb (key i) k) (width i) 0) (λ i l. cond-next (key i) k (width i))
      ∙ sum-add n (λ i. cond (ltb (key i) k) (width i) 0) (λ i. cond (eqb (key i) k) (width i) 0)
      ∙ ap (λ (x : ℕ). sum_to n (λ i. cond (ltb (key i) k) (width i) 0) + x) (sym (peers-sum k))

  pub before-rise : (j k : ℕ) → j ≤ k → before j ≤ before k
  unfolding before
  before-rise j k h =
      sum-le n (λ i. cond (ltb (key i) j) (width i) 0) (λ i. cond (ltb (key i) k) (width i) 0) (λ i l. cond-rise (key i) j k (width i) h)

  pub before-skip : (j k : ℕ) → j ≤ k → ((i : ℕ) → j ≤ key i → k ≤ key i) → before j ≡ before k
  unfolding before
  before-skip j k h none =
      sum_same n (λ i. cond (ltb (key i) j) (width i) 0) (λ i. cond (ltb (key i) k) (width i) 0)
      (λ i l. cond-skip (key i) j k (width i) h (none i))

  pub before-zero : before 0 ≡ 0
  unfolding before
  before-zero = sum-zero n (λ i. cond (ltb (key i) 0) (width i) 0) (λ i l. rw (le-ltb (key i) 0 (omega arith)))

  pub before-le : (k : ℕ) → before k ≤ sum_to n width
  unfolding before
  before-le k = sum-le n (λ i. cond (ltb (key i) k) (width i) 0) width (λ i l. cond-le (ltb (key i) k) (width i))

  -- past every band with a width
  pub before-all : (k : ℕ) → Below n (λ i. k ≤ key i → width i ≡ 0) → before k ≡ sum_to n width
  unfolding before
  before-all k h = sum_same n (λ i. cond (ltb (key i) k) (width i) 0) width each
    where
      each : (i : ℕ) → i < n → cond (ltb (key i) k) (width i) 0 ≡ width i
      each i l =
          ⊎_elim (λ (m : key i < k). rw (lt-ltb (key i) k m)) (λ (m : k ≤ key i). rw (le-ltb (key i) k m) (sym (h i l m)))
          (lt-or-le (key i) k)

  -- what the bands of key k get together of what is left there
  unfoldable pub portion : (ℕ → ℕ) → ℕ → ℕ
  portion left k = min (left k) (whole (peers k))

  portion-le : (left : ℕ → ℕ) (k : ℕ) → portion left k ≤ whole (peers k)
  unfolding portion
  portion-le left k = min-le_right (left k) (whole (peers k))

  module _ (left : ℕ → ℕ) (first : ℕ) where
    -- what row i gets of what is left at its key
    unfoldable pub shared : ℕ → ℕ
    shared i = share (portion left (key i)) (peers (key i)) first i

    pub shared-le : (i : ℕ) → shared i ≤ width i
    unfolding shared
    shared-le i =
        omega (arith, share-le-weight (portion left (key i)) (peers (key i)) first i (portion-le left (key i)), peers-le (key i) i)

    pub shared-past : (i : ℕ) → n ≤ i → shared i ≡ 0
    unfolding shared
    shared-past i l = share-zero (portion left (key i)) (peers (key i)) first i (peers-past (key i) i l)

    pub shared-met : (i : ℕ) → left (key i) ≡ 0 → shared i ≡ 0
    unfolding shared portion
    shared-met i h =
        omega (
          arith,
          share-le-amount (min (left (key i)) (whole (peers (key i)))) (peers (key i)) first i,
          min-le_left (left (key i)) (whole (peers (key i))),
        )

    pub shared-full : (i : ℕ) → i < n → whole (peers (key i)) ≤ left (key i) → shared i ≡ width i
    unfolding shared portion
    shared-full i l h =
        share-is-weight (min (left (key i)) (whole (peers (key i)))) (peers (key i)) first i (omega arith) ∙ peers-here i l

    pub shared_alike : (i j : ℕ) → first < n → i < n → j < n → key i ≡ key j → width i ≡ width j → turn n first i < turn n first j
        → SameOrOneMore (shared i) (shared j)
    unfolding shared
    shared_alike i j inside l m e w before =
        let long = peers-length (key i) in
        let other : at (peers (key i)) j ≡ width j = peers-at (key i) j m ∙ rw (eq-eqb (key j) (key i) (sym e)) in
        rw (sym e)
        (share-alike (portion left (key i)) (peers (key i)) first i j (omega (arith, long)) (omega (arith, long)) (peers-here i l ∙ w ∙ sym other) (rw long before))

    pub shared-part : (k i : ℕ) → share (portion left k) (peers k) first i ≡ cond (eqb (key i) k) (shared i) 0
    unfolding shared
    shared-part k i =
        ⊎_elim (λ (e : eqb (key i) k ≡ true). let s : key i ≡ k = eqb-true (key i) k e in rw (e, s))
        (λ (e : eqb (key i) k ≡ false). rw e (share-zero (portion left k) (peers k) first i (peers-not k i (eqb-false (key i) k e))))
        (test-or (eqb (key i) k))

    portion-shared : (0 < n → first < n) → (k : ℕ) → sum_to n (share (portion left k) (peers k) first) ≡ portion left k
    portion-shared inside k =
        ⊎_elim
        (λ (e : whole (peers k) ≡ 0).
        omega (arith, portion-le left k, sum-zero n (share (portion left k) (peers k) first) (λ i l. none e i)))
        (λ (p : 0 < whole (peers k)). ap (λ (m : ℕ). sum_to m (share (portion left k) (peers k) first)) (sym (peers-length k))
        ∙ share-sum (portion left k) (peers k) first p (rw (peers-length k) inside)) (eq-zero-or-pos (whole (peers k)))
      where
        none : whole (peers k) ≡ 0 → (i : ℕ) → share (portion left k) (peers k) first i ≡ 0
        none e i = omega (arith, share-le-amount (portion left k) (peers k) first i, portion-le left k)

    pub shared-sum : (0 < n → first < n) → (k : ℕ) → sum_to n (λ i. cond (eqb (key i) k) (shared i) 0) ≡ portion left k
    shared-sum inside k =
        sum_same n (λ i. cond (eqb (key i) k) (shared i) 0) (share (portion left k) (peers k) first) (λ i l. sym (shared-part k i))
        ∙ portion-shared inside k
