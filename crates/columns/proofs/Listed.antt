-- A list of the positions below n that pass a test (specs/Lists.antt), and the loops that make it and go over it.
--     one-is, cond-bit     a test as a number
--     from_bit, from_one   the same of a number that std made of a test
--     lists-none           the list of nobody
--     lists-room           there is a place in the list for each position
--     lists-next           one position more, listed if it passes
--     lists-quiet          one position more, where nothing is stored and nobody passes
--     Listing              the invariant of the loop that makes the list: of the positions below i those that pass are listed
--     listing_none, listing-room, listing-fits, listing-next, listing-end, listing-written     before the first position, room for one more,
--                          its count fits, one position more, after the last one: the list, and all that the array holds
--     Found, found_in, found     which position stands at place j
--     found_at             a position that passes stands at its place
--     sum-listed           a sum over the list is the sum over the positions that pass
--     front-count          how many that pass stand before position k
--     Dealt                before place j of the list: the positions up to there have f, the others what stood there at the start
--     dealt-none, dealt-now, dealt-next, dealt-all     the start, what stands at j's position, one place more, the end
use Prim.Native.Nat.{ℕ, zero, suc, ◌+◌, ◌^◌, ◌≤◌, ◌<◌}
use mathlib.Core.Path.{◌≡◌, refl, ap, sym, ◌∙◌, subst}
use mathlib.Core.Logic.{◌⊎◌, inl, inr, ⊎_elim}
use mathlib.Core.Bool.{Bool, true, false, cond, ◌&&◌}
use mathlib.Core.List.{List}
use native.Mathlib.Numerals.{add-one}
use native.Mathlib.Omega.{arith}
use lib.Dec.{ltb, eqb}
use lib.ListN.{length, set, length-set}
use lib.Seq.{get_or-set_same, get_or-set_other}
use mir.Val.{bool_byte}
use borrow.Author.Count.{below_more}
use borrow.Author.Tests.{lt-ltb, le-ltb, eqb-true, eqb-false}
use Rattle.columns.specs.Sum.{bit, sum_to, count_to, sum_where}
use Rattle.columns.specs.Table.{at, table, Below}
use Rattle.columns.proofs.Sum.{lt-or-le, sum-next, sum_same, count_next, count-le, count-before}
use Rattle.columns.proofs.Mask.{where_next}
use Rattle.columns.proofs.Rank.{test-or, ltb-same}
use Rattle.columns.proofs.Table.{table_is}
use Rattle.columns.specs.Lists.{Lists, listing}

pub one-is : (t : Bool) → (bool_byte t ≡ bit t) × (bool_byte t ≤ 1)
one-is true = (refl, omega arith)
one-is false = (refl, omega arith)

pub from_bit : (t : Bool) (b : ℕ) → b ≡ bool_byte t → b ≡ bit t
from_bit t b e = e ∙ (one-is t).0

pub from_one : (t : Bool) (b : ℕ) → b ≡ bool_byte t → b ≤ 1
from_one t b e = omega (arith, e, one-is t)

pub cond-bit : (t : Bool) → cond t 1 0 ≡ bit t
cond-bit true = refl
cond-bit false = refl

-- ---- the list is made

pub lists-none : (p : ℕ → Bool) (list : List ℕ) → length list ≡ 256 → Lists 0 p list 0
lists-none p list long =
    record { long = long; many = unfold count_to sum_to in refl; places = λ k l. absurd (omega arith) }

module _ (p : ℕ → Bool) (list : List ℕ) (k i : ℕ) (lists : Lists i p list k) where
  pub lists-room : i < 256 → k < 256
  lists-room l = omega (arith, lists.many, count-le i p)

  pub lists-quiet : p i ≡ false → Lists (i + 1) p list k
  lists-quiet off =
      record {
        long = lists.long;
        many = omega (arith, lists.many, count_next i p, ap bit off);
        places = below_more (λ (j : ℕ). p j ≡ true → at list (count_to j p) ≡ j) i lists.places (λ on. absurd (omega (arith, ap bit on, ap bit off)));
      }

  pub lists-next : i < 256 → (b : ℕ) → b ≡ bit (p i) → Lists (i + 1) p (set list k i) (k + b)
  lists-next l b b-is =
      record {
        long = length-set list k i ∙ lists.long;
        many = omega (arith, lists.many, count_next i p, b-is);
        places = below_more (λ (j : ℕ). p j ≡ true → at (set list k i) (count_to j p) ≡ j) i
            (λ j q on. get_or-set_other list k (count_to j p) i 0 (omega (arith, lists.many, count-before p j i q on)) ∙ lists.places j q on)
            (λ on. rw (← lists.many) (get_or-set_same list k i 0 (omega (arith, lists.long, lists-room l))));
      }

pub record Listing (n : ℕ) (p : ℕ → Bool) (start list : List ℕ) (m i : ℕ) : Type 0 where
  pub within : i ≤ n
  pub lists : Lists i p list m
  pub written : list ≡ listing p start i

module _ (n : ℕ) (p : ℕ → Bool) (start list : List ℕ) where
  pub listing_none : list ≡ start → length list ≡ 256 → Listing n p start list 0 0
  unfolding listing
  listing_none same long = record { within = omega arith; lists = lists-none p list long; written = same }

  module _ (m i : ℕ) (made : Listing n p start list m i) where
    pub listing-room : n ≤ 256 → i < n → m < 256
    listing-room few l = lists-room p list m i made.lists (omega arith)

    pub listing-fits : n ≤ 256 → i < n → (b : ℕ) → b ≤ 1 → m + b < 2 ^ 64
    listing-fits few l b le = omega (arith, listing-room few l)

    written-next : set list m i ≡ listing p start (i + 1)
    unfolding listing
    written-next = rw (add-one, ← made.lists.many, ← made.written) refl

    pub listing-next : n ≤ 256 → i < n → (b : ℕ) → b ≡ bit (p i) → Listing n p start (set list m i) (m + b) (i + 1)
    listing-next few l b b-is =
        record { within = omega arith; lists = lists-next p list m i made.lists (omega arith) b b-is; written = written-next }

    pub listing-end : n ≤ i → Lists n p list m
    listing-end q = subst (λ (k : ℕ). Lists k p list m) (omega (arith, made.within)) made.lists

    pub listing-written : n ≤ i → list ≡ listing p start n
    listing-written q = made.written ∙ ap (listing p start) (omega (arith, made.within))

-- ---- what stands in it

-- x is the position below n that passes and has j before it that do
pub record Found (n : ℕ) (p : ℕ → Bool) (j x : ℕ) : Type 0 where
  pub inside : x < n
  pub passes : p x ≡ true
  pub place : count_to x p ≡ j

-- each place below the count is somebody's
seat : (n : ℕ) (p : ℕ → Bool) (j : ℕ) → j < count_to n p → (x : ℕ) × Found n p j x
seat zero p j l = absurd (let e : count_to 0 p ≡ 0 = unfold count_to sum_to in refl in omega arith)
seat (suc n) p j l =
    ⊎_elim (λ (q : j < count_to n p). up (seat n p j q)) (λ (q : count_to n p ≤ j). last q (test-or (p n))) (lt-or-le j (count_to n p))
  where
    more : count_to (suc n) p ≡ count_to n p + bit (p n)
    more = rw (← add-one) (count_next n p)

    up : (x : ℕ) × Found n p j x → (x : ℕ) × Found (suc n) p j x
    up s = (s.0, record { inside = omega (arith, s.1.inside); passes = s.1.passes; place = s.1.place })

    last : count_to n p ≤ j → (p n ≡ true) ⊎ (p n ≡ false) → (x : ℕ) × Found (suc n) p j x
    last q (inl on) = (n, record { inside = omega arith; passes = on; place = omega (arith, more, ap bit on) })
    last q (inr off) = absurd (omega (arith, more, ap bit off))

pub found_in : (n : ℕ) (p : ℕ → Bool) (list : List ℕ) (j : ℕ) → Below n (λ i. p i ≡ true → at list (count_to i p) ≡ i) → j < count_to n p
    → Found n p j (at list j)
found_in n p list j places l =
    let s = seat n p j l in
    let e : at list j ≡ s.0 = ap (at list) (sym s.1.place) ∙ places s.0 s.1.inside s.1.passes in
    rw e s.1

pub found : (n : ℕ) (p : ℕ → Bool) (list : List ℕ) (m j : ℕ) → Lists n p list m → j < m → Found n p j (at list j)
found n p list m j lists l = found_in n p list j lists.places (omega (arith, lists.many))

pub found_at : (n : ℕ) (p : ℕ → Bool) (i : ℕ) → i < n → p i ≡ true → Found n p (count_to i p) i
found_at n p i l on = record { inside = l; passes = on; place = refl }

pub sum-listed : (n : ℕ) (p : ℕ → Bool) (list : List ℕ) (g : ℕ → ℕ) → Below n (λ i. p i ≡ true → at list (count_to i p) ≡ i)
    → sum_to (count_to n p) (λ j. g (at list j)) ≡ sum_where n p g
sum-listed zero p list g h = unfold count_to sum_where sum_to in refl
sum-listed (suc n) p list g h =
    rw (← add-one) (step (sum-listed n p list g (λ k l. h k (omega arith))) (test-or (p n)))
  where
    step : sum_to (count_to n p) (λ j. g (at list j)) ≡ sum_where n p g → (p n ≡ true) ⊎ (p n ≡ false)
        → sum_to (count_to (n + 1) p) (λ j. g (at list j)) ≡ sum_where (n + 1) p g
    step so_far (inl on) =
        let e : count_to (n + 1) p ≡ count_to n p + 1 = omega (arith, count_next n p, ap bit on) in
        let here : cond (p n) (g n) 0 ≡ g (at list (count_to n p)) = rw on (ap g (sym (h n (omega arith) on))) in
        rw e (omega (arith, so_far, sum-next (count_to n p) (λ j. g (at list j)), where_next n p g, here))
    step so_far (inr off) =
        let e : count_to (n + 1) p ≡ count_to n p = omega (arith, count_next n p, ap bit off) in
        let here : cond (p n) (g n) 0 ≡ 0 = rw off in
        rw e (omega (arith, so_far, where_next n p g, here))

all : (n : ℕ) (p : ℕ → Bool) → sum_where n p (λ i. bit (ltb i n)) ≡ count_to n p
unfolding count_to sum_where
all n p = sum_same n (λ i. cond (p i) (bit (ltb i n)) 0) (λ i. bit (p i)) (λ i l. rw (lt-ltb i n l) (cond-bit (p i)))

pub front-count : (n : ℕ) (p : ℕ → Bool) (k : ℕ) → k ≤ n → sum_where n p (λ i. bit (ltb i k)) ≡ count_to k p
front-count zero p k h = let e : k ≡ 0 = omega arith in rw e (unfold count_to sum_where sum_to in refl)
front-count (suc n) p k h =
    ⊎_elim
    (λ (l : n < k). let e : k ≡ suc n = omega arith in rw e (all (suc n) p))
    (λ (l : k ≤ n). rw (← add-one) (omega (arith, front-count n p k l, where_next n p (λ i. bit (ltb i k)), none (p n) (ltb n k) (le-ltb n k l))))
    (lt-or-le n k)
  where
    none : (t s : Bool) → s ≡ false → cond t (bit s) 0 ≡ 0
    none true s e = ap bit e
    none false s e = refl

-- ---- a loop over it that writes

pub record Dealt (n : ℕ) (p : ℕ → Bool) (f : ℕ → ℕ) (start now : List ℕ) (j : ℕ) : Type 0 where
  pub room : length now ≡ length start
  pub is : Below n (λ i. at now i ≡ cond (p i && ltb (count_to i p) j) (f i) (at start i))

pub dealt-none : (n : ℕ) (p : ℕ → Bool) (f : ℕ → ℕ) (start : List ℕ) → Dealt n p f start start 0
dealt-none n p f start = record { room = refl; is = λ i l. never (p i) (count_to i p) (f i) (at start i) }
  where
    never : (t : Bool) (c x y : ℕ) → y ≡ cond (t && ltb c 0) x y
    never true c x y = rw (le-ltb c 0 (omega arith))
    never false c x y = refl

module _ (n : ℕ) (p : ℕ → Bool) (f : ℕ → ℕ) (start now : List ℕ) (j : ℕ) (dealt : Dealt n p f start now j) where
  pub dealt-now : (x : ℕ) → Found n p j x → at now x ≡ at start x
  dealt-now x here = dealt.is x here.inside ∙ rw (here.passes, here.place, le-ltb j j (omega arith))

  pub dealt-next : (x v : ℕ) → Found n p j x → n ≤ length start → v ≡ f x → Dealt n p f start (set now x v) (j + 1)
  dealt-next x v here wide e =
      record { room = length-set now x v ∙ dealt.room; is = λ i l. each i l (test-or (eqb i x)) }
    where
      -- no other position has place j
      later : (i : ℕ) → (i ≡ x → ⊥) → (p i ≡ true) ⊎ (p i ≡ false) → p i && ltb (count_to i p) j ≡ p i && ltb (count_to i p) (j + 1)
      later i apart (inr off) = rw off
      later i apart (inl on) =
          rw on
          (ltb-same (count_to i p) j (count_to i p) (j + 1) (λ o. omega arith)
          (λ (o : count_to i p < j + 1). ⊎_elim (λ (q : i < x). omega (arith, count-before p i x q on, here.place))
          (λ (q : x ≤ i). absurd (omega (arith, count-before p x i (omega arith) here.passes, here.place))) (lt-or-le i x)))

      each : (i : ℕ) → i < n → (eqb i x ≡ true) ⊎ (eqb i x ≡ false)
          → at (set now x v) i ≡ cond (p i && ltb (count_to i p) (j + 1)) (f i) (at start i)
      each i l (inl s) =
          let same : i ≡ x = eqb-true i x s in
          rw (same, here.passes, here.place, lt-ltb j (j + 1) (omega arith))
          (get_or-set_same now x v 0 (omega (arith, dealt.room, here.inside)) ∙ e)
      each i l (inr s) =
          let apart : i ≡ x → ⊥ = eqb-false i x s in
          get_or-set_other now x i v 0 apart ∙ dealt.is i l ∙ ap (λ (t : Bool). cond t (f i) (at start i)) (later i apart (test-or (p i)))

  pub dealt-all : count_to n p ≤ j → length start ≡ n → Below n (λ i. p i ≡ false → at start i ≡ f i) → now ≡ table n f
  dealt-all q long quiet = table_is 0 now n f (dealt.room ∙ long) (λ i l. dealt.is i l ∙ each i l (test-or (p i)))
    where
      each : (i : ℕ) → i < n → (p i ≡ true) ⊎ (p i ≡ false) → cond (p i && ltb (count_to i p) j) (f i) (at start i) ≡ f i
      each i l (inl on) = rw (on, lt-ltb (count_to i p) j (omega (arith, count-before p i n l on)))
      each i l (inr off) = rw off (quiet i l off)
