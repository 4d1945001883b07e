-- Who is served: the line found by halving, and the pass over turns. Each law has the shape of one fact that the code asks for.
--     reach_is                  the count of those who reach k
--     Halved, halved_none       the search for the line
--     line-exact                its end where just as many reach a remainder
--     before-line               to be served by the line is to be among the first `left` by the order of service
--     start_is_in               the place in the list where turns begin
--     turned_on, turned_round   the place of a turn
--     Handed, handed-none, met-fits, handed-next, handed-all     the pass
use Prim.Native.Nat.{ℕ, ◌+◌, ◌-◌, ◌^◌, ◌≤◌, ◌<◌}
use mathlib.Core.Path.{◌≡◌, refl, ap, sym, ◌∙◌}
use mathlib.Core.Logic.{◌⊎◌, inl, inr, ⊎_elim}
use mathlib.Core.Bool.{Bool, true, false, cond, ◌&&◌}
use mathlib.Core.List.{List}
use native.Mathlib.Omega.{arith}
use lib.Dec.{ltb, leb, eqb}
use lib.ListN.{length, set, length-set}
use lib.Seq.{get_or-set_same, get_or-set_other}
use borrow.Author.Tests.{lt-ltb, le-ltb, le-leb, lt-leb, leb-true, eq-eqb, ne_eqb, eqb-true, eqb-false}
use mir.Val.{bool_byte}
use Rattle.std.specs.List.{sum_by, count_by}
use Rattle.columns.specs.Sum.{bit, sum_to, count_to}
use Rattle.columns.specs.Table.{at, table, Below}
use Rattle.columns.proofs.Sum.{lt-or-le, sum_same, sum-add, sum-le, bit_le, count-le, count_none, count-all, count-sub, count-some}
use Rattle.columns.proofs.Rank.{test-or, ltb-same, count-one}
use Rattle.columns.proofs.First.{right-true}
use Rattle.columns.proofs.Table.{table_is}
use Rattle.columns.proofs.Listed.{one-is, cond-bit, from_bit, from_one}
use Rattle.columns.proofs.Whole.{sum_by_is}
use Rattle.share.specs.Share.{turn}
use Rattle.share.specs.Steps.{goes_before, place, marked, reach, start_in, Served, Serving, Turning}
use Rattle.share.proofs.Order.{turn-front, turn-late, turn-lt, turn-apart}

and-true : (b : Bool) → bit (b && true) ≡ bit b
and-true true = refl
and-true false = refl

-- a test that passes at position i alone is counted there
count-there : (n : ℕ) (p : ℕ → Bool) (i : ℕ) → i < n → ((j : ℕ) → j < n → p j ≡ true → j ≡ i) → count_to n p ≡ bit (p i)
count-there n p i l h =
    ⊎_elim
    (λ (e : p i ≡ true).
    let one = count-one n p (λ j k m o q r. h j m q ∙ sym (h k o r)) in omega (arith, one, count-some n p i l e, ap bit e))
    (λ (e : p i ≡ false). count_none n p (λ j m. none j m (test-or (p j)) e) ∙ sym (ap bit e)) (test-or (p i))
  where
    none : (j : ℕ) → j < n → (p j ≡ true) ⊎ (p j ≡ false) → p i ≡ false → p j ≡ false
    none j m (inl t) e = ap p (h j m t) ∙ e
    none j m (inr t) e = t

-- ---- the line

pub reach_is : (rs : List ℕ) (k count : ℕ) → count ≡ sum_by (λ x. bool_byte (leb k x)) rs → count ≡ reach rs k
unfolding reach count_to
reach_is rs k count e =
    e ∙ sum_by_is (λ x. bool_byte (leb k x)) rs
    ∙ sum_same (length rs) (λ j. bool_byte (leb k (at rs j))) (λ j. bit (leb k (at rs j))) (λ j l. (one-is (leb k (at rs j))).0)

reach-down : (rs : List ℕ) (j k : ℕ) → j ≤ k → reach rs k ≤ reach rs j
unfolding reach
reach-down rs j k h =
    count-sub (length rs) (λ i. leb k (at rs i)) (λ i. leb j (at rs i)) (λ i l e. le-leb j (at rs i) (omega (arith, leb-true k (at rs i) e)))

-- between lo, which enough reach, and hi, which too few do: `few` of them
pub record Halved (rs : List ℕ) (left lo hi few : ℕ) : Type 0 where
  pub apart : lo < hi
  pub enough : left ≤ reach rs lo
  pub few_is : few ≡ reach rs hi
  pub short : few ≤ left

module _ (rs : List ℕ) (W left : ℕ) where
  pub halved_none : Serving rs W left → Halved rs left 0 W 0
  unfolding reach
  halved_none s =
      record {
        apart = omega (arith, s.under 0);
        enough = omega (arith, s.enough, count-all (length rs) (λ j. leb 0 (at rs j)) (λ j l. le-leb 0 (at rs j) (omega arith)));
        few_is = sym (count_none (length rs) (λ j. leb W (at rs j)) (λ j l. lt-leb W (at rs j) (s.under j)));
        short = omega arith;
      }

module _ (rs : List ℕ) (left lo hi few mid count : ℕ) (h : Halved rs left lo hi few) (is : count ≡ reach rs mid) where
  pub line-exact : lo < mid → count ≡ left → Served rs left (mid - 1) 0
  line-exact l e =
      record {
        is = let m : mid - 1 + 1 ≡ mid = omega arith in rw m (omega arith);
        most = omega (arith, reach-down rs (mid - 1) mid (omega arith));
      }

-- ---- to be served by the line

-- how many remainders equal to k have had their turn before turn t
unfoldable pub passed : List ℕ → ℕ → ℕ → ℕ → ℕ
passed rs first k t = count_to (length rs) (λ j. eqb (at rs j) k && ltb (turn (length rs) first j) t)

pub passed-le : (rs : List ℕ) (first k t : ℕ) → passed rs first k t ≤ length rs
unfolding passed
passed-le rs first k t = count-le (length rs) (λ j. eqb (at rs j) k && ltb (turn (length rs) first j) t)

-- a remainder s goes before the remainder k at turn u if it reaches k + 1, or is equal and its turn t comes earlier
split-before : (s t k u : ℕ) → bit (goes_before s t k u) ≡ bit (leb (k + 1) s) + bit (eqb s k && ltb t u)
split-before s t k u =
    ⊎_elim (λ (l : k < s). rw (lt-ltb k s l, le-leb (k + 1) s (omega arith), ne_eqb s k (omega arith)))
    (λ (l : s ≤ k). rw (le-ltb k s l, lt-leb (k + 1) s (omega arith)) (omega arith)) (lt-or-le k s)

module _ (rs : List ℕ) (first left low ties : ℕ) (line : Served rs left low ties) (i : ℕ) (inside : i < length rs) where
  place-equal : at rs i ≡ low → place rs first i ≡ reach rs (low + 1) + passed rs first low (turn (length rs) first i)
  unfolding place reach passed count_to
  place-equal e =
      rw e
      (sum_same (length rs) (λ j. bit (goes_before (at rs j) (turn (length rs) first j) low (turn (length rs) first i)))
      (λ j. bit (leb (low + 1) (at rs j)) + bit (eqb (at rs j) low && ltb (turn (length rs) first j) (turn (length rs) first i)))
      (λ j l. split-before (at rs j) (turn (length rs) first j) low (turn (length rs) first i))
      ∙ sum-add (length rs) (λ j. bit (leb (low + 1) (at rs j)))
      (λ j. bit (eqb (at rs j) low && ltb (turn (length rs) first j) (turn (length rs) first i))))

  -- whoever stands before i reaches its remainder, and so does i
  place-above : place rs first i < reach rs (at rs i)
  unfolding place reach count_to
  place-above =
      omega (
        arith,
        count-some (length rs) (λ j. eqb j i) i inside (eq-eqb i i refl),
        sum-add (length rs) (λ j. bit (goes_before (at rs j) (turn (length rs) first j) (at rs i) (turn (length rs) first i))) (λ j. bit (eqb j i)),
        sum-le (length rs)
            (λ j. bit (goes_before (at rs j) (turn (length rs) first j) (at rs i) (turn (length rs) first i)) + bit (eqb j i))
            (λ j. bit (leb (at rs i) (at rs j))) (λ j l. each j),
      )
    where
      each : (j : ℕ) → bit (goes_before (at rs j) (turn (length rs) first j) (at rs i) (turn (length rs) first i)) + bit (eqb j i)
          ≤ bit (leb (at rs i) (at rs j))
      each j =
          ⊎_elim
          (λ (e : eqb j i ≡ true). let same : j ≡ i = eqb-true j i e in
          rw (
            same,
            eq-eqb i i refl,
            le-ltb (at rs i) (at rs i) (omega arith),
            eq-eqb (at rs i) (at rs i) refl,
            le-ltb (turn (length rs) first i) (turn (length rs) first i) (omega arith),
            le-leb (at rs i) (at rs i) (omega arith),
          )
          (omega arith))
          (λ (e : eqb j i ≡ false). rw e (⊎_elim
          (λ (l : at rs j < at rs i). rw (le-ltb (at rs i) (at rs j) (omega arith), ne_eqb (at rs j) (at rs i) (omega arith)) (omega arith))
          (λ (l : at rs i ≤ at rs j). rw (le-leb (at rs i) (at rs j) l)
          (omega (arith, bit_le (goes_before (at rs j) (turn (length rs) first j) (at rs i) (turn (length rs) first i)))))
          (lt-or-le (at rs j) (at rs i)))) (test-or (eqb j i))

  -- whoever reaches the line stands before one below it
  place-below : at rs i < low → reach rs low ≤ place rs first i
  unfolding place reach
  place-below l =
      count-sub (length rs) (λ j. leb low (at rs j))
      (λ j. goes_before (at rs j) (turn (length rs) first j) (at rs i) (turn (length rs) first i))
      (λ j m e. rw (lt-ltb (at rs i) (at rs j) (omega (arith, leb-true low (at rs j) e))))

  pub before-line : goes_before (at rs i) (passed rs first low (turn (length rs) first i)) low ties ≡ ltb (place rs first i) left
  before-line =
      ⊎_elim
      (λ (l : low < at rs i). rw (lt-ltb low (at rs i) l)
      (sym (lt-ltb (place rs first i) left (omega (arith, place-above, reach-down rs (low + 1) (at rs i) (omega arith), line.is)))))
      (λ (l : at rs i ≤ low). ⊎_elim
      (λ (m : at rs i < low). rw (le-ltb low (at rs i) l, ne_eqb (at rs i) low (omega arith))
      (sym (le-ltb (place rs first i) left (omega (arith, place-below m, line.most)))))
      (λ (m : low ≤ at rs i). let e : at rs i ≡ low = omega arith in rw (le-ltb low (at rs i) l, eq-eqb (at rs i) low e)
      (ltb-same (passed rs first low (turn (length rs) first i)) ties (place rs first i) left
      (λ (o : passed rs first low (turn (length rs) first i) < ties). omega (arith, place-equal e, line.is))
      (λ (o : place rs first i < left). omega (arith, place-equal e, line.is)))) (lt-or-le (at rs i) low)) (lt-or-le low (at rs i))

-- ---- where turns begin

pub start_is_in : (list : List ℕ) (first count : ℕ) → count ≡ count_by (λ x. ltb x first) list
    → (count ≡ start_in list (length list) first) × (count ≤ length list)
unfolding start_in count_to
start_is_in list first count e =
    let is : count ≡ count_to (length list) (λ j. ltb (at list j) first) =
    e ∙ sum_by_is (λ x. cond (ltb x first) 1 0) list
    ∙ sum_same (length list) (λ j. cond (ltb (at list j) first) 1 0) (λ j. bit (ltb (at list j) first)) (λ j l. cond-bit (ltb (at list j) first)) in
    (is, omega (arith, is, count-le (length list) (λ j. ltb (at list j) first)))

-- ---- the pass over turns

pub turned_on : (n first t : ℕ) → first + t < n → turn n first (first + t) ≡ t
turned_on n first t l = omega (arith, turn-late n first (first + t) (omega arith) l)

pub turned_round : (n first t : ℕ) → first ≤ n → t < n → n ≤ first + t → turn n first (first + t - n) ≡ t
turned_round n first t h l m = omega (arith, turn-front n first (first + t - n) (omega arith) h)

-- equal remainders met before turn t + 1 are those met before turn t, and the one at the position of turn t
passed-next : (rs : List ℕ) (first k t i : ℕ) → first ≤ length rs → i < length rs → turn (length rs) first i ≡ t
    → passed rs first k (t + 1) ≡ passed rs first k t + bit (eqb (at rs i) k)
unfolding passed
passed-next rs first k t i inside l e =
    unfold count_to in
    sum_same (length rs) (λ j. bit (eqb (at rs j) k && ltb (turn (length rs) first j) (t + 1)))
    (λ j. bit (eqb (at rs j) k && ltb (turn (length rs) first j) t) + bit (eqb (at rs j) k && eqb (turn (length rs) first j) t))
    (λ j m. each (eqb (at rs j) k) (turn (length rs) first j))
    ∙ sum-add (length rs) (λ j. bit (eqb (at rs j) k && ltb (turn (length rs) first j) t))
    (λ j. bit (eqb (at rs j) k && eqb (turn (length rs) first j) t))
    ∙ ap (λ (x : ℕ). sum_to (length rs) (λ j. bit (eqb (at rs j) k && ltb (turn (length rs) first j) t)) + x) there
  where
    each : (b : Bool) (u : ℕ) → bit (b && ltb u (t + 1)) ≡ bit (b && ltb u t) + bit (b && eqb u t)
    each true u =
        ⊎_elim (λ (m : u < t). rw (lt-ltb u (t + 1) (omega arith), lt-ltb u t m, ne_eqb u t (omega arith)))
        (λ (m : t ≤ u). ⊎_elim (λ (o : t < u). rw (le-ltb u (t + 1) (omega arith), le-ltb u t m, ne_eqb u t (omega arith)))
        (λ (o : u ≤ t). rw (lt-ltb u (t + 1) (omega arith), le-ltb u t m, eq-eqb u t (omega arith))) (lt-or-le t u)) (lt-or-le u t)
    each false u = refl

    there : sum_to (length rs) (λ j. bit (eqb (at rs j) k && eqb (turn (length rs) first j) t)) ≡ bit (eqb (at rs i) k)
    there =
        unfold count_to in
        count-there (length rs) (λ j. eqb (at rs j) k && eqb (turn (length rs) first j) t) i l
        (λ j m o. turn-apart (length rs) first inside j i m l
        (eqb-true (turn (length rs) first j) t (right-true (eqb (at rs j) k) (eqb (turn (length rs) first j) t) o) ∙ sym e))
        ∙ rw (e, eq-eqb t t refl) (and-true (eqb (at rs i) k))

-- before turn t: whoever has had its turn is marked, and `met` equal remainders were met
pub record Handed (rs : List ℕ) (start left low t met : ℕ) (xs : List ℕ) : Type 0 where
  pub within : t ≤ length rs
  pub room : length xs ≡ length rs
  pub met_is : met ≡ passed rs start low t
  pub is : Below (length rs) (λ j. at xs j ≡ cond (ltb (turn (length rs) start j) t) (marked rs start left j) (at rs j))

module _ (rs : List ℕ) (start left low ties : ℕ) (good : Turning rs start left low ties) where
  pub handed-none : Handed rs start left low 0 0 rs
  unfolding passed
  handed-none =
      record {
        within = omega arith;
        room = refl;
        met_is =
            sym (count_none (length rs) (λ j. eqb (at rs j) low && ltb (turn (length rs) start j) 0)
            (λ j l. none (eqb (at rs j) low) (turn (length rs) start j)));
        is = λ j l. rw (le-ltb (turn (length rs) start j) 0 (omega arith));
      }
    where
      none : (b : Bool) (u : ℕ) → b && ltb u 0 ≡ false
      none true u = le-ltb u 0 (omega arith)
      none false u = refl

  module _ (t met : ℕ) (xs : List ℕ) (h : Handed rs start left low t met xs) where
    pub met-fits : (b : Bool) (more : ℕ) → more ≡ bool_byte b → met + more < 2 ^ 64
    met-fits b more is = omega (arith, h.met_is, passed-le rs start low t, from_one b more is, good.short)

    pub handed-all : length rs ≤ t → xs ≡ table (length rs) (marked rs start left)
    handed-all m =
        table_is 0 xs (length rs) (marked rs start left) h.room
        (λ j l. h.is j l ∙ rw (lt-ltb (turn (length rs) start j) t (omega (arith, turn-lt (length rs) start j (omega arith)))))

    module _ (j : ℕ) (l : j < length rs) (e : turn (length rs) start j ≡ t) where
      -- what stands at the place of turn t is still its remainder
      before-turn : at xs j ≡ at rs j
      before-turn = h.is j l ∙ rw (e, le-ltb t t (omega arith))

      pub handed-next : (b : Bool) (v more : ℕ) → b ≡ goes_before (at xs j) met low ties → v ≡ bool_byte b → more ≡ bool_byte (eqb (at xs j) low)
          → Handed rs start left low (t + 1) (met + more) (set xs j v)
      handed-next b v more f v-is more-is =
          record {
            within = omega (arith, turn-lt (length rs) start j (omega arith));
            room = length-set xs j v ∙ h.room;
            met_is =
                omega (
                  arith,
                  h.met_is,
                  from_bit (eqb (at xs j) low) more more-is,
                  ap (λ (x : ℕ). bit (eqb x low)) before-turn,
                  passed-next rs start low t j good.inside l e,
                );
            is = λ k m. each k m (test-or (eqb k j));
          }
        where
          due : v ≡ marked rs start left j
          due =
              unfold marked in
              from_bit b v v-is
              ∙ ap bit (f ∙ (λ i. goes_before (before-turn i) ((h.met_is ∙ ap (passed rs start low) (sym e)) i) low ties)
              ∙ before-line rs start left low ties good.line j l)

          -- no other place has turn t
          later : (k : ℕ) → k < length rs → (k ≡ j → ⊥) → ltb (turn (length rs) start k) t ≡ ltb (turn (length rs) start k) (t + 1)
          later k m apart =
              ltb-same (turn (length rs) start k) t (turn (length rs) start k) (t + 1) (λ o. omega arith)
              (λ (o : turn (length rs) start k < t + 1). ⊎_elim (λ (p : turn (length rs) start k < t). p)
              (λ (p : t ≤ turn (length rs) start k).
              absurd (apart (turn-apart (length rs) start good.inside k j m l (omega arith))))
              (lt-or-le (turn (length rs) start k) t))

          each : (k : ℕ) → k < length rs → (eqb k j ≡ true) ⊎ (eqb k j ≡ false)
              → at (set xs j v) k ≡ cond (ltb (turn (length rs) start k) (t + 1)) (marked rs start left k) (at rs k)
          each k m (inl s) =
              let same : k ≡ j = eqb-true k j s in
              rw (same, e, lt-ltb t (t + 1) (omega arith)) (get_or-set_same xs j v 0 (omega (arith, h.room)) ∙ due)
          each k m (inr s) =
              let apart : k ≡ j → ⊥ = eqb-false k j s in
              get_or-set_other xs j k v 0 apart ∙ h.is k m
              ∙ ap (λ (c : Bool). cond c (marked rs start left k) (at rs k)) (later k m apart)
