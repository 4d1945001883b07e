-- The rule in one step is the rule as it is told.
--     next-is       whoever is next, when k were served, is the position of rank k
--     next-waits    nobody else who waits stands before whoever is next
--     next-inside   there is such a position as long as fewer than all were served
--     process       handing out one by one gives the shares
use Prim.Native.Nat.{ℕ, zero, suc, ◌+◌, ◌≤◌, ◌<◌}
use mathlib.Core.Path.{◌≡◌, refl, ap, sym, ◌∙◌, subst}
use mathlib.Core.Logic.{⊎_elim}
use mathlib.Core.Bool.{Bool, true, false, not, ◌&&◌}
use mathlib.Core.List.{List, [], ◌∷◌}
use native.Mathlib.Nat.{eq-zero-or-pos, add-zero}
use native.Mathlib.Omega.{arith}
use lib.Dec.{T, ltb, eqb}
use lib.ListN.{length, set, length-set}
use lib.Seq.{get_or-set_same, get_or-set_other}
use borrow.Author.Tests.{lt-ltb, le-ltb, eq-eqb, ne_eqb, eqb-true, eqb-false}
use Rattle.columns.specs.Sum.{bit, count_to}
use Rattle.columns.specs.Table.{at, table, Below}
use Rattle.columns.proofs.First.{and-false}
use Rattle.columns.proofs.Sum.{lt-or-le, count_none, count-some, count-zero}
use Rattle.columns.proofs.Table.{table-length, table_at, table_is, table_same}
use Rattle.columns.proofs.Rank.{test-or, ltb-same, find-is, find-passes, rank-order, rank-apart, rank-some}
use Rattle.columns.specs.Sum.{whole}
use Rattle.share.specs.Share.{quota, before, rank, left, share, shares}
use Rattle.share.specs.Process.{among, next, hand_out, one_by_one}
use Rattle.share.proofs.Order.{key, key_apart, before-key, rank-under}
use Rattle.share.proofs.Rests.{some-length, left_le, share-is}
use Rattle.share.proofs.Laws.{share-none}

not-and : (b : Bool) → not b && b ≡ false
not-and true = refl
not-and false = refl

both : (s t : Bool) → not s && t ≡ true → (s ≡ false) × (t ≡ true)
both true t e = absurd (subst T (sym e) tt)
both false t e = (refl, e)

neither : (s t : Bool) → s ≡ false → not s && t ≡ false → t ≡ false
neither true t e f = absurd (subst T e tt)
neither false t e f = f

-- whoever is next was not served yet, and nobody else not served yet stands before
pub next-waits : (a : ℕ) (ws : List ℕ) (first : ℕ) (served : List ℕ) → next a ws first served < length ws
    → (among served (next a ws first served) ≡ false)
    × Below (length ws) (λ j. among served j ≡ false → before a ws first j (next a ws first served) ≡ false)
unfolding next
next-waits a ws first served l =
    let w = both (among served (next a ws first served)) (eqb (ahead (next a ws first served)) 0) (find-passes (length ws) (λ i. not (among served i) && eqb (ahead i) 0) l) in (
      w.0,
      λ j m e.
          neither (among served j) (before a ws first j (next a ws first served)) e
          (count-zero (length ws) (λ k. not (among served k) && before a ws first k (next a ws first served))
          (eqb-true (ahead (next a ws first served)) 0 w.1) j m),
    )
  where
    ahead : ℕ → ℕ
    ahead i = count_to (length ws) (λ j. not (among served j) && before a ws first j i)

module _ (a : ℕ) (ws : List ℕ) (first : ℕ) (some : 0 < whole ws) (inside : first < length ws) where
  before-rank : (i j : ℕ) → i < length ws → before a ws first i j ≡ ltb (rank a ws first i) (rank a ws first j)
  before-rank i j l =
      rw (rank-under a ws first some inside i, rank-under a ws first some inside j)
      (before-key a ws first some inside i j ∙ sym (rank-order (length ws) (key a ws first) (key_apart a ws first some inside) i j l))

  apart : (i j : ℕ) → i < length ws → j < length ws → rank a ws first i ≡ rank a ws first j → i ≡ j
  apart i j k l e =
      rank-apart (length ws) (key a ws first) (key_apart a ws first some inside) i j k l
      (sym (rank-under a ws first some inside i) ∙ e ∙ rank-under a ws first some inside j)

  -- the list holds who has a rank below k
  abbrev Served : ℕ → List ℕ → Type 0
  Served k served = Below (length ws) (λ i. among served i ≡ ltb (rank a ws first i) k)

  pub next-is : (k : ℕ) (served : List ℕ) (p : ℕ) → Served k served → p < length ws → rank a ws first p ≡ k → next a ws first served ≡ p
  unfolding next
  next-is k served p h l e =
      find-is (length ws)
      (λ i. not (among served i) && eqb (count_to (length ws) (λ j. not (among served j) && before a ws first j i)) 0) p l
      (rw (h p l, le-ltb (rank a ws first p) k (omega arith), here) refl) there
    where
      here : count_to (length ws) (λ j. not (among served j) && before a ws first j p) ≡ 0
      here =
          count_none (length ws) (λ j. not (among served j) && before a ws first j p)
          (λ j m. rw (h j m, before-rank j p m, e) (not-and (ltb (rank a ws first j) k)))

      there : Below p (λ j. not (among served j) && eqb (count_to (length ws) (λ i. not (among served i) && before a ws first i j)) 0 ≡ false)
      there j m =
          ⊎_elim (λ (o : rank a ws first j < k). rw (h j (omega arith), lt-ltb (rank a ws first j) k o) refl)
          (λ (o : k ≤ rank a ws first j). ⊎_elim
          (λ (q : k < rank a ws first j).
          let w : 0 < count_to (length ws) (λ i. not (among served i) && before a ws first i j) =
          count-some (length ws) (λ i. not (among served i) && before a ws first i j) p l
          (rw (h p l, le-ltb (rank a ws first p) k (omega arith), before-rank p j l, lt-ltb (rank a ws first p) (rank a ws first j) (omega arith)) refl) in
          rw (ne_eqb (count_to (length ws) (λ i. not (among served i) && before a ws first i j)) 0 (omega arith)) (and-false (not (among served j))))
          (λ (q : rank a ws first j ≤ k). absurd (omega (arith, apart j p (omega arith) l (omega arith))))
          (lt-or-le k (rank a ws first j)))
          (lt-or-le (rank a ws first j) k)

  pub next-inside : (k : ℕ) (served : List ℕ) → Served k served → k < length ws
      → (p : ℕ) × (p < length ws) × (rank a ws first p ≡ k) × (next a ws first served ≡ p)
  next-inside k served h l =
      let w = rank-some (length ws) (key a ws first) (key_apart a ws first some inside) k l in
      let e : rank a ws first w.0 ≡ k = rank-under a ws first some inside w.0 ∙ w.2 in
      (w.0, w.1, e, next-is k served w.0 h w.1 e)

  -- what everybody has when those of a rank below k were served
  had : ℕ → ℕ → ℕ
  had k i = quota a ws i + bit (ltb (rank a ws first i) k)

  module _ (k : ℕ) (served : List ℕ) (p : ℕ) (h : Served k served) (l : p < length ws) (e : rank a ws first p ≡ k) where
    -- whoever is not p is served before and after alike
    other : (i : ℕ) → i < length ws → (i ≡ p → ⊥) → ltb (rank a ws first i) k ≡ ltb (rank a ws first i) (suc k)
    other i m ne =
        ltb-same (rank a ws first i) k (rank a ws first i) (suc k) (λ (o : rank a ws first i < k). omega arith)
        (λ (o : rank a ws first i < suc k).
        ⊎_elim (λ (q : rank a ws first i < k). q) (λ (q : k ≤ rank a ws first i). absurd (ne (apart i p m l (omega arith))))
        (lt-or-le (rank a ws first i) k))

    served-next : Served (suc k) (p ∷ served)
    unfolding among
    served-next i m =
        ⊎_elim (λ (t : eqb p i ≡ true). let s : p ≡ i = eqb-true p i t in rw t (sym (lt-ltb (rank a ws first i) (suc k) (rw (← s) (omega arith)))))
        (λ (t : eqb p i ≡ false). rw t (h i m ∙ other i m (λ s. eqb-false p i t (sym s)))) (test-or (eqb p i))

    had-next : (xs : List ℕ) → xs ≡ table (length ws) (had k) → set xs p (at xs p + 1) ≡ table (length ws) (had (suc k))
    unfolding had
    had-next xs is =
        table_is 0 (set xs p (at xs p + 1)) (length ws) (had (suc k)) (length-set xs p (at xs p + 1) ∙ long)
        (λ i m. ⊎_elim
        (λ (t : eqb p i ≡ true). let s : p ≡ i = eqb-true p i t in
        let here = ap bit (le-ltb (rank a ws first p) k (omega arith)) in
        let next = ap bit (lt-ltb (rank a ws first p) (suc k) (omega arith)) in
        rw (← s) (get_or-set_same xs p (at xs p + 1) 0 (omega (arith, long)) ∙ (omega (arith, stood p l, here, next))))
        (λ (t : eqb p i ≡ false).
        get_or-set_other xs p i (at xs p + 1) 0 (λ s. eqb-false p i t (sym s)) ∙ stood i m
        ∙ ap (λ (b : Bool). quota a ws i + bit b) (other i m (λ s. eqb-false p i t (sym s))))
        (test-or (eqb p i)))
      where
        long : length xs ≡ length ws
        long = rw is (table-length (length ws) (had k))

        stood : (i : ℕ) → i < length ws → at xs i ≡ quota a ws i + bit (ltb (rank a ws first i) k)
        stood i m = rw is (table_at 0 (length ws) (had k) i m)

  handed : (k m : ℕ) (served xs : List ℕ) → Served m served → xs ≡ table (length ws) (had m) → m + k ≤ length ws
      → hand_out a ws first k served xs ≡ table (length ws) (had (m + k))
  unfolding hand_out
  handed zero m served xs h is q = rw add-zero is
  handed (suc k) m served xs h is q =
      let w = next-inside m served h (omega arith) in
      let e : m + suc k ≡ suc m + k = omega arith in
      rw (w.3, e)
      (handed k (suc m) (w.0 ∷ served) (set xs w.0 (at xs w.0 + 1)) (served-next m served w.0 h w.1 w.2)
      (had-next m served w.0 h w.1 w.2 xs is) (omega arith))

  all-handed : hand_out a ws first (left a ws) [] (table (length ws) (quota a ws)) ≡ shares a ws first
  unfolding shares had among
  all-handed =
      handed (left a ws) 0 [] (table (length ws) (quota a ws))
      (λ i l. sym (le-ltb (rank a ws first i) 0 (omega arith)))
      (table_same (length ws) (quota a ws) (had 0) (λ i l. omega (arith, ap bit (le-ltb (rank a ws first i) 0 (omega arith)))))
      (omega (arith, left_le a ws some))
      ∙ (let z : 0 + left a ws ≡ left a ws = omega arith in rw z (table_same (length ws) (had (left a ws)) (share a ws first) (λ i l. sym (share-is a ws some first i))))

pub process : (a : ℕ) (ws : List ℕ) (first : ℕ) → (0 < length ws → first < length ws) → one_by_one a ws first ≡ shares a ws first
unfolding one_by_one
process a ws first inside =
    ⊎_elim
    (λ (e : whole ws ≡ 0). rw (eq-eqb (whole ws) 0 e) (unfold shares in table_same (length ws) (λ i. 0) (share a ws first) (λ i l. sym (share-none a ws first e i))))
    (λ (some : 0 < whole ws). rw (ne_eqb (whole ws) 0 (omega arith)) (all-handed a ws first some (inside (some-length ws some))))
    (eq-zero-or-pos (whole ws))
