-- Positions ordered by a number of their own, their key: how many stand before each.
-- Below n no two positions have the same key; the rank of position i is `under n key (key i)`.
--     test-or       a test passes, or it does not
--     same_test     two tests that pass together are equal
--     ltb-same      two comparisons that hold together are equal
--     some_or_none  some position below n passes a test, or none does
--     find-is       the search finds the first position that passes
--     find-passes   what the search finds below n passes
--     count-one     a test that passes at one position at most is counted once at most
--     under_some    for each l up to n there is a bound with l keys under it
--     rank-order    ranks stand as the keys do
--     rank-apart    no two positions have the same rank
--     rank-count    exactly l positions have a rank below l, for l up to n
--     rank-some     each rank below n is somebody's
use Prim.Native.Nat.{ℕ, zero, suc, ◌+◌, ◌≤◌, ◌<◌}
use mathlib.Core.Path.{◌≡◌, refl, ap, sym, ◌∙◌}
use mathlib.Core.Logic.{◌⊎◌, inl, inr, ⊎_elim}
use mathlib.Core.Bool.{Bool, true, false}
use native.Mathlib.Numerals.{add-one}
use native.Mathlib.Omega.{arith}
use lib.Dec.{ltb, eqb}
use borrow.Author.Tests.{lt-ltb, le-ltb, ltb-true, eq-eqb, ne_eqb, eqb-true, eqb-false}
use Rattle.columns.specs.Sum.{bit, sum_to, count_to, find_to}
use Rattle.columns.specs.Table.{Below}
use Rattle.columns.proofs.Sum.{lt-or-le, sum-add, sum_same, term-le, count_next, count_same, count-le, count_none, count-all, count-sub, count-some}

pub test-or : (t : Bool) → (t ≡ true) ⊎ (t ≡ false)
test-or true = inl refl
test-or false = inr refl

pub same_test : (p q : Bool) → (p ≡ true → q ≡ true) → (q ≡ true → p ≡ true) → p ≡ q
same_test true q h k = sym (h refl)
same_test false true h k = k refl
same_test false false h k = refl

pub ltb-same : (a b c d : ℕ) → (a < b → c < d) → (c < d → a < b) → ltb a b ≡ ltb c d
ltb-same a b c d h k =
    same_test (ltb a b) (ltb c d) (λ e. lt-ltb c d (h (ltb-true a b e))) (λ e. lt-ltb a b (k (ltb-true c d e)))

pub count-one : (n : ℕ) (p : ℕ → Bool) → ((i j : ℕ) → i < n → j < n → p i ≡ true → p j ≡ true → i ≡ j) → count_to n p ≤ 1
count-one zero p h = omega (arith, count-le 0 p)
count-one (suc n) p h = rw (← add-one n) (rw count_next (⊎_elim here (there (count-one n p (λ i j k l. h i j (omega arith) (omega arith)))) (test-or (p n))))
  where
    here : p n ≡ true → count_to n p + bit (p n) ≤ 1
    here e =
        omega
        (arith, ap bit e, count_none n p (λ k l. ⊎_elim (λ (f : p k ≡ true). absurd (omega (arith, h k n (omega arith) (omega arith) f e))) (λ f. f) (test-or (p k))))

    there : count_to n p ≤ 1 → p n ≡ false → count_to n p + bit (p n) ≤ 1
    there less e = omega (arith, ap bit e)

pub some_or_none : (n : ℕ) (p : ℕ → Bool) → ((i : ℕ) × (i < n) × (p i ≡ true)) ⊎ Below n (λ i. p i ≡ false)
some_or_none zero p = inr (λ i l. absurd (omega arith))
some_or_none (suc n) p =
    ⊎_elim (λ (e : p n ≡ true). inl (n, omega arith, e))
    (λ (e : p n ≡ false). ⊎_elim
    (λ (w : (i : ℕ) × (i < n) × (p i ≡ true)). inl (w.0, omega arith, w.2))
    (λ (h : Below n (λ i. p i ≡ false)). inr (λ i l. ⊎_elim (λ (k : i < n). h i k) (λ (k : n ≤ i). let s : i ≡ n = omega arith in rw s e) (lt-or-le i n)))
    (some_or_none n p))
    (test-or (p n))

find_none : (n : ℕ) (p : ℕ → Bool) → Below n (λ i. p i ≡ false) → find_to n p ≡ n
unfolding find_to
find_none zero p h = refl
find_none (suc n) p h =
    let e : find_to n p ≡ n = find_none n p (λ i l. h i (omega arith)) in
    rw (le-ltb (find_to n p) n (omega arith), h n (omega arith))

-- the first that passes, where all before it do not
pub find-is : (n : ℕ) (p : ℕ → Bool) (i : ℕ) → i < n → p i ≡ true → Below i (λ j. p j ≡ false) → find_to n p ≡ i
unfolding find_to
find-is zero p i l e h = absurd (omega arith)
find-is (suc n) p i l e h =
    ⊎_elim
    (λ (k : i < n). let f : find_to n p ≡ i = find-is n p i k e h in rw (lt-ltb (find_to n p) n (omega arith)) f)
    (λ (k : n ≤ i). let s : i ≡ n = omega arith in
    let f : find_to n p ≡ n = find_none n p (λ j m. h j (omega arith)) in
    let t : p n ≡ true = rw (← s) e in
    rw (le-ltb (find_to n p) n (omega arith), t) (sym s))
    (lt-or-le i n)

pub find-passes : (n : ℕ) (p : ℕ → Bool) → find_to n p < n → p (find_to n p) ≡ true
unfolding find_to
find-passes zero p l = absurd (omega arith)
find-passes (suc n) p l =
    ⊎_elim (λ (k : find_to n p < n). rw (lt-ltb (find_to n p) n k) (find-passes n p k))
    (λ (k : n ≤ find_to n p). ⊎_elim (λ (e : p n ≡ true). rw (le-ltb (find_to n p) n k, e) e)
    (λ (e : p n ≡ false). let m = rw (le-ltb (find_to n p) n k, e) at l in absurd (omega arith)) (test-or (p n)))
    (lt-or-le (find_to n p) n)

-- how many keys below n are under t
unfoldable pub under : ℕ → (ℕ → ℕ) → ℕ → ℕ
under n key t = count_to n (λ j. ltb (key j) t)

-- no two positions below n have the same key
abbrev pub Apart : ℕ → (ℕ → ℕ) → Type 0
Apart n key = (i j : ℕ) → i < n → j < n → key i ≡ key j → i ≡ j

module _ (n : ℕ) (key : ℕ → ℕ) (apart : Apart n key) where
  same : ℕ → ℕ
  same t = count_to n (λ j. eqb (key j) t)

  under-zero : under n key 0 ≡ 0
  unfolding under
  under-zero = count_none n (λ j. ltb (key j) 0) (λ j l. le-ltb (key j) 0 (omega arith))

  bit-next : (k t : ℕ) → bit (ltb k (suc t)) ≡ bit (ltb k t) + bit (eqb k t)
  bit-next k t =
      ⊎_elim
      (λ (l : k < t). rw (lt-ltb k (suc t) (omega arith), lt-ltb k t l, ne_eqb k t (omega arith)))
      (λ (m : t ≤ k). ⊎_elim
      (λ (l : t < k). rw (le-ltb k (suc t) (omega arith), le-ltb k t m, ne_eqb k t (omega arith)))
      (λ (o : k ≤ t). rw (lt-ltb k (suc t) (omega arith), le-ltb k t m, eq-eqb k t (omega arith)))
      (lt-or-le t k))
      (lt-or-le k t)

  under_next : (t : ℕ) → under n key (suc t) ≡ under n key t + same t
  unfolding under same count_to
  under_next t =
      sum_same n (λ j. bit (ltb (key j) (suc t))) (λ j. bit (ltb (key j) t) + bit (eqb (key j) t)) (λ j l. bit-next (key j) t)
      ∙ sum-add n (λ j. bit (ltb (key j) t)) (λ j. bit (eqb (key j) t))

  same-le : (t : ℕ) → same t ≤ 1
  unfolding same
  same-le t =
      count-one n (λ j. eqb (key j) t) (λ i j k l e f. apart i j k l (eqb-true (key i) t e ∙ sym (eqb-true (key j) t f)))

  same_some : (i : ℕ) → i < n → 0 < same (key i)
  unfolding same
  same_some i l = count-some n (λ j. eqb (key j) (key i)) i l (eq-eqb (key i) (key i) refl)

  under-le : (t u : ℕ) → t ≤ u → under n key t ≤ under n key u
  unfolding under
  under-le t u l =
      count-sub n (λ j. ltb (key j) t) (λ j. ltb (key j) u) (λ j k e. lt-ltb (key j) u (omega (arith, ltb-true (key j) t e)))

  under_all : under n key (suc (sum_to n key)) ≡ n
  unfolding under
  under_all = count-all n (λ j. ltb (key j) (suc (sum_to n key))) (λ j l. lt-ltb (key j) (suc (sum_to n key)) (omega (arith, term-le n key j l)))

  climb : (l b : ℕ) → l ≤ under n key b → (t : ℕ) × (under n key t ≡ l)
  climb l zero h = (0, omega (arith, under-zero))
  climb l (suc b) h =
      ⊎_elim (λ (k : under n key b < l). (suc b, omega (arith, under_next b, same-le b)))
      (λ (k : l ≤ under n key b). climb l b k) (lt-or-le (under n key b) l)

  pub under_some : (l : ℕ) → l ≤ n → (t : ℕ) × (under n key t ≡ l)
  under_some l h = climb l (suc (sum_to n key)) (omega (arith, under_all))

  under-lt : (i t : ℕ) → i < n → key i < t → under n key (key i) < under n key t
  under-lt i t k l = omega (arith, under_next (key i), same_some i k, under-le (suc (key i)) t l)

  under-order : (i t : ℕ) → i < n → ltb (under n key (key i)) (under n key t) ≡ ltb (key i) t
  under-order i t k =
      ltb-same (under n key (key i)) (under n key t) (key i) t
      (λ (l : under n key (key i) < under n key t).
      ⊎_elim (λ (m : key i < t). m) (λ (m : t ≤ key i). absurd (omega (arith, under-le t (key i) m))) (lt-or-le (key i) t))
      (under-lt i t k)

  pub rank-order : (i j : ℕ) → i < n → ltb (under n key (key i)) (under n key (key j)) ≡ ltb (key i) (key j)
  rank-order i j k = under-order i (key j) k

  pub rank-apart : (i j : ℕ) → i < n → j < n → under n key (key i) ≡ under n key (key j) → i ≡ j
  rank-apart i j k l e =
      ⊎_elim (λ (m : key i < key j). absurd (omega (arith, under-lt i (key j) k m)))
      (λ (m : key j ≤ key i). ⊎_elim (λ (o : key j < key i). absurd (omega (arith, under-lt j (key i) l o)))
      (λ (o : key i ≤ key j). apart i j k l (omega arith)) (lt-or-le (key j) (key i)))
      (lt-or-le (key i) (key j))

  pub rank-count : (l : ℕ) → l ≤ n → count_to n (λ i. ltb (under n key (key i)) l) ≡ l
  unfolding under
  rank-count l h =
      let w = under_some l h in
      count_same n (λ i. ltb (under n key (key i)) l) (λ i. ltb (key i) w.0)
      (λ i k. ap (λ (m : ℕ). ltb (under n key (key i)) m) (sym w.1) ∙ under-order i w.0 k)
      ∙ w.1

  pub rank-some : (l : ℕ) → l < n → (i : ℕ) × (i < n) × (under n key (key i) ≡ l)
  rank-some l h =
      ⊎_elim
      (λ (w : (i : ℕ) × (i < n) × (eqb (under n key (key i)) l ≡ true)). (w.0, w.1, eqb-true (under n key (key w.0)) l w.2))
      (λ (none : Below n (λ i. eqb (under n key (key i)) l ≡ false)).
      absurd (omega (
        arith,
        rank-count l (omega arith),
        rank-count (suc l) (omega arith),
        count_same n (λ i. ltb (under n key (key i)) (suc l)) (λ i. ltb (under n key (key i)) l)
            (λ i k. ltb-same (under n key (key i)) (suc l) (under n key (key i)) l
            (λ (m : under n key (key i) < suc l). omega (arith, eqb-false (under n key (key i)) l (none i k)))
            (λ (m : under n key (key i) < l). omega arith)),
      )))
      (some_or_none n (λ i. eqb (under n key (key i)) l))
