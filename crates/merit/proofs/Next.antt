-- The next bid: what the steps of the search for it come to, and how far the walk may go on by it.
--     next-none, next-some      the lowest bid above the last, and what stands for it where there is none
--     next-above     the next bid is above the last
--     next-skips     and no row has a bid between the two
--     next-less      so the walk ends
use Prim.Native.Nat.{ℕ, zero, suc, ◌-◌, ◌≤◌, ◌<◌, min}
use mathlib.Core.Path.{◌≡◌}
use mathlib.Core.Bool.{Bool, true, false, cond}
use mathlib.Core.Logic.{⊎_elim}
use mathlib.Core.List.{List, [], ◌∷◌}
use native.Mathlib.Nat.{le_refl}
use native.Mathlib.Omega.{arith}
use lib.ListN.{length, get_or-eq_default}
use lib.Dec.{ltb}
use borrow.Author.Tests.{lt-ltb, le-ltb, ltb-true}
use Rattle.std.specs.List.{All, Contains}
use Rattle.std.proofs.lemmas.List.Elements.{All-nil, All-head, All-tail, All-from_get_or, All-contains, All-filter, filter_passes}
use Rattle.columns.specs.Table.{at}
use Rattle.columns.proofs.Sum.{lt-or-le}
use Rattle.merit.specs.Walk.{past, sooner, next_in, next_bid, above}

module _ (k best bid : ℕ) where
  sooner-early : bid ≤ k → best ≡ sooner k best bid
  unfolding sooner
  sooner-early l = rw (le-ltb k bid l)

  sooner-min : k < bid → sooner k best bid ≡ min best bid
  unfolding sooner
  sooner-min l = rw (lt-ltb k bid l)

  sooner-le : sooner k best bid ≤ best
  sooner-le = ⊎_elim (λ (l : k < bid). omega (arith, sooner-min l)) (λ (l : bid ≤ k). omega (arith, sooner-early l)) (lt-or-le k bid)

  sooner-above : k < best → k < sooner k best bid
  sooner-above h = ⊎_elim (λ (l : k < bid). omega (arith, sooner-min l)) (λ (l : bid ≤ k). omega (arith, sooner-early l)) (lt-or-le k bid)

-- what is at most each of the bids above k is at most each bid that is above k
kept : (k m : ℕ) (bs : List ℕ) → All (λ x. m ≤ x) (above k bs) → (i : ℕ) → i < length bs → k < at bs i → m ≤ at bs i
kept k m [] h i l p = absurd (omega arith)
kept k m (x ∷ xs) h zero l p =
    let first : All (λ y. m ≤ y) (x ∷ above k xs) = rw (lt-ltb k x p) at h in All-head (λ y. m ≤ y) x (above k xs) first
kept k m (x ∷ xs) h (suc i) l p = kept k m xs (rest (ltb k x) h) i (omega arith) p
  where
    rest : (t : Bool) → All (λ y. m ≤ y) (cond t (x ∷ above k xs) (above k xs)) → All (λ y. m ≤ y) (above k xs)
    rest true g = All-tail (λ y. m ≤ y) x (above k xs) g
    rest false g = g

module _ (k : ℕ) (bs : List ℕ) where
  in-above : k < past → (n : ℕ) → k < next_in k bs n
  unfolding next_in
  in-above h zero = h
  in-above h (suc n) = sooner-above k (next_in k bs n) (at bs n) (in-above h n)

  in-skips : (n i : ℕ) → i < n → k < at bs i → next_in k bs n ≤ at bs i
  unfolding next_in
  in-skips zero i l h = absurd (omega arith)
  in-skips (suc n) i l h =
      ⊎_elim (λ (p : i < n). omega (arith, in-skips n i p h, sooner-le k (next_in k bs n) (at bs n)))
      (λ (p : n ≤ i). let s : n ≡ i = omega arith in rw s (omega (arith, sooner-min k (next_in k bs i) (at bs i) h))) (lt-or-le i n)

  in-past : (n : ℕ) → next_in k bs n ≤ past
  unfolding next_in
  in-past zero = le_refl past
  in-past (suc n) = omega (arith, in-past n, sooner-le k (next_in k bs n) (at bs n))

  -- what is at most past, and at most each bid above k, is at most the next bid
  in-least : (m : ℕ) → m ≤ past → ((i : ℕ) → i < length bs → k < at bs i → m ≤ at bs i) → (n : ℕ) → n ≤ length bs → m ≤ next_in k bs n
  unfolding next_in
  in-least m h f zero l = h
  in-least m h f (suc n) l =
      let before : m ≤ next_in k bs n = in-least m h f n (omega arith) in
      ⊎_elim (λ (p : k < at bs n). omega (arith, f n (omega arith) p, sooner-min k (next_in k bs n) (at bs n) p))
      (λ (p : at bs n ≤ k). omega (arith, sooner-early k (next_in k bs n) (at bs n) p)) (lt-or-le k (at bs n))

  pub next-above : k < past → k < next_bid k bs
  unfolding next_bid
  next-above h = in-above h (length bs)

  pub next-skips : (i : ℕ) → k < at bs i → next_bid k bs ≤ at bs i
  unfolding next_bid
  next-skips i h =
      ⊎_elim (λ (l : i < length bs). in-skips (length bs) i l h) (λ (l : length bs ≤ i). absurd (omega (arith, get_or-eq_default bs 0 l)))
      (lt-or-le i (length bs))

pub next-less : (bs : List ℕ) (k n : ℕ) → k < past → n ≡ next_bid k bs → past - n < past - k
next-less bs k n l e = omega (arith, next-above k bs l)

-- the lowest bid above k is the next bid, and where there is none it is past every bid
module _ (k : ℕ) (bs : List ℕ) where
  least : (m : ℕ) → m ≤ past → All (λ x. m ≤ x) (above k bs) → m ≤ next_bid k bs
  unfolding next_bid
  least m h all = in-least k bs m h (kept k m bs all) (length bs) (le_refl (length bs))

  pub next-none : above k bs ≡ [] → past ≡ next_bid k bs
  unfolding next_bid
  next-none e = omega (arith, least past (le_refl past) (rw e (All-nil (λ x. past ≤ x))), in-past k bs (length bs))

  pub next-some : (m : ℕ) → ((i : ℕ) → at bs i < past) → Contains (above k bs) m → All (λ x. m ≤ x) (above k bs) → m ≡ next_bid k bs
  next-some m low has all =
      omega (arith, least m (omega (arith, small)) all, most (ltb-true k m passes))
    where
      -- what holds of each bid holds of m
      of_all : (P : ℕ → Type 0) → ((i : ℕ) → P (at bs i)) → P m
      of_all P f = All-contains P (above k bs) m (All-filter (λ x. ltb k x) P bs (All-from_get_or P bs 0 (λ i l. f i))) has

      passes : ltb k m ≡ true
      passes = All-contains (λ x. ltb k x ≡ true) (above k bs) m (filter_passes (λ x. ltb k x) bs) has

      small : m < past
      small = of_all (λ x. x < past) low

      most : k < m → next_bid k bs ≤ m
      most = of_all (λ x. k < x → next_bid k bs ≤ x) (next-skips k bs)
