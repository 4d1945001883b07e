-- The walk: what it has done before a bid, and before a row of a bid; each lemma in the shape of one need.
--     Walked         all bands below bid k are called, and none from k up; `left` is what they leave of the need
--     Turned         of the parts of one bid, those in rows before i are called
--     walked-first, turned-first, turned-next, walked_next     from the start on, row by row, from bid to next bid
--     callable       a part is at most what is left, and no call wraps
--     ended-met      the walk may end as soon as nothing is left
--     ended-past     or past every bid
--     ended-full     and where it would begin there, nothing is left to call
use Prim.Native.Nat.{ℕ, ◌+◌, ◌-◌, ◌≤◌, ◌<◌, min}
use mathlib.Core.Path.{◌≡◌, refl, ap, sym, ◌∙◌}
use mathlib.Core.Logic.{⊎_elim}
use mathlib.Core.Bool.{true, false, cond}
use mathlib.Core.List.{List}
use native.Mathlib.Nat.{le_refl}
use native.Mathlib.Numerals.{add-one}
use native.Mathlib.Omega.{arith}
use lib.Dec.{ltb, eqb}
use lib.ListN.{length, set, length-set, get_or-eq_default}
use lib.Seq.{get_or-set_same, get_or-set_other}
use borrow.Author.Tests.{lt-ltb, le-ltb, eqb-true, eqb-false}
use Rattle.columns.specs.Sum.{sum_to, whole}
use Rattle.columns.specs.Table.{at, table}
use Rattle.columns.proofs.Sum.{lt-or-le, sum-next, sum-shorter}
use Rattle.columns.proofs.Rank.{test-or}
use Rattle.columns.proofs.Table.{table-length, table_at, table-past, table_is}
use Rattle.merit.specs.OneTier.{under, below, group_in, called_in, tier_calls}
use Rattle.merit.specs.Ready.{Ready, TierCalled}
use Rattle.merit.specs.Walk.{Margin, cheap_in, Begun, past, next_bid, Callable, parts_in}
use Rattle.merit.proofs.Keyed.{cond-next, cond-skip, cond-le}
use Rattle.merit.proofs.Next.{next-above, next-skips}
use Rattle.merit.proofs.OneTier.{under-past, below_next, below-skip, below-rise, below-le, below_all}
use Rattle.merit.proofs.OneTier.{called-le, called-full, called-met, parts_of, parts-length, parts_at, parts-sum}

-- what row j is called for by the bands below bid k
unfoldable pub done : ℕ → List ℕ → List ℕ → ℕ → ℕ → ℕ → ℕ
done need ws bs first k j = cond (ltb (at bs j) k) (called_in need ws bs first j) 0

pub record Walked (need : ℕ) (ws bs : List ℕ) (first k left : ℕ) (cs : List ℕ) : Type 0 where
  pub left_is : left ≡ need - below ws bs k
  pub room : length cs ≡ length ws
  pub is : (j : ℕ) → at cs j ≡ done need ws bs first k j

-- at the start of the turn `start` was left and the column was cs₁; the parts are no more than that, and no call wraps
pub record Turned (start : ℕ) (cs₁ ps : List ℕ) (i left : ℕ) (cs : List ℕ) : Type 0 where
  pub few : length ps ≤ 256
  pub level : length cs₁ ≡ length ps
  pub small : (j : ℕ) → at cs₁ j + at ps j ≤ 250000
  pub covered : sum_to (length ps) (at ps) ≤ start
  pub within : i ≤ length ps
  pub room : length cs ≡ length cs₁
  pub left_is : left + sum_to i (at ps) ≡ start
  pub is : (j : ℕ) → at cs j ≡ at cs₁ j + cond (ltb j i) (at ps j) 0

module _ (start : ℕ) (cs₁ ps : List ℕ) (i left : ℕ) (cs : List ℕ) (w : Turned start cs₁ ps i left cs) where
  here : at cs i ≡ at cs₁ i
  here = w.is i ∙ rw (le-ltb i i (le_refl i)) (omega arith)

  pub callable : i < length ps → Callable left i ps cs
  callable l =
      record {
        part_at = l;
        call_at = omega (arith, w.level, w.room);
        covered = omega (arith, w.left_is, w.covered, sum-next i (at ps), sum-shorter (i + 1) (length ps) (at ps) (omega arith));
        fits = omega (arith, w.small i, here);
      }

  -- row i is called for its part: r is left then
  module _ (part r : ℕ) (f : part ≡ at ps i) (e : r ≡ left - part) (l : i < length ps) where
    called-room : length (set cs i (at cs i + part)) ≡ length cs₁
    called-room = length-set cs i (at cs i + part) ∙ w.room

    pub turned-next : Turned start cs₁ ps (i + 1) r (set cs i (at cs i + part))
    turned-next =
        record {
          few = w.few;
          level = w.level;
          small = w.small;
          covered = w.covered;
          within = omega arith;
          room = called-room;
          left_is = omega (arith, w.left_is, (callable l).covered, sum-next i (at ps));
          is = is;
        }
      where
        is : (j : ℕ) → at (set cs i (at cs i + part)) j ≡ at cs₁ j + cond (ltb j (i + 1)) (at ps j) 0
        is j =
            ⊎_elim
            (λ (s : eqb j i ≡ true). let same : j ≡ i = eqb-true j i s in
            rw (same, lt-ltb i (i + 1) (omega arith))
            (get_or-set_same cs i (at cs i + part) 0 (callable l).call_at ∙ omega (arith, here)))
            (λ (s : eqb j i ≡ false). let apart : j ≡ i → ⊥ = eqb-false j i s in
            get_or-set_other cs i j (at cs i + part) 0 apart ∙ w.is j
            ∙ ⊎_elim (λ (m : j < i). rw (lt-ltb j i m, lt-ltb j (i + 1) (omega arith)))
            (λ (m : i ≤ j). rw (le-ltb j i m, le-ltb j (i + 1) (omega arith))) (lt-or-le j i)) (test-or (eqb j i))

  -- where the parts from row i on are 0, all parts are called
  all-called : sum_to i (at ps) ≡ sum_to (length ps) (at ps) → (j : ℕ) → at cs j ≡ at cs₁ j + at ps j
  all-called e j =
      w.is j
      ∙ ⊎_elim (λ (m : j < i). rw (lt-ltb j i m))
      (λ (m : i ≤ j). rw (le-ltb j i m) (ap (λ (x : ℕ). at cs₁ j + x) (sym (rest m)))) (lt-or-le j i)
    where
      rest : i ≤ j → at ps j ≡ 0
      rest m =
          ⊎_elim
          (λ (l : j < length ps).
          omega (arith, sum-next j (at ps), sum-shorter i j (at ps) m, sum-shorter (j + 1) (length ps) (at ps) (omega arith)))
          (λ (l : length ps ≤ j). get_or-eq_default ps 0 l) (lt-or-le j (length ps))

module _ (need : ℕ) (ws bs : List ℕ) (first : ℕ) where
  done-le : (k j : ℕ) → done need ws bs first k j ≤ at ws j
  unfolding done
  done-le k j = omega (arith, cond-le (ltb (at bs j) k) (called_in need ws bs first j), called-le need ws bs first j)

  done_next : (k j : ℕ) → done need ws bs first (k + 1) j
      ≡ done need ws bs first k j + cond (eqb (at bs j) k) (called_in need ws bs first j) 0
  unfolding done
  done_next k j = rw (add-one k) (cond-next (at bs j) k (called_in need ws bs first j))

  -- no row has a bid between this and the next, so nothing more is to be done below the next
  walked_skip : (k n left : ℕ) (cs : List ℕ) → k < past → n ≡ next_bid k bs → Walked need ws bs first (k + 1) left cs
      → Walked need ws bs first n left cs
  walked_skip k n left cs h e w =
      record {
        left_is = w.left_is ∙ ap (λ (x : ℕ). need - x) (below-skip ws bs (k + 1) n from skips);
        room = w.room;
        is = λ j. w.is j ∙ unfold done in cond-skip (at bs j) (k + 1) n (called_in need ws bs first j) from (skips j);
      }
    where
      from : k + 1 ≤ n
      from = omega (arith, next-above k bs h)

      skips : (j : ℕ) → k + 1 ≤ at bs j → n ≤ at bs j
      skips j l = rw e (next-skips k bs j (omega arith))

  -- where lower bids do not pass the need, bands below k are called in full
  done_full : (k j : ℕ) → below ws bs k ≤ need → done need ws bs first k j ≡ under ws bs k j
  unfolding done under
  done_full k j h =
      ⊎_elim (λ (l : at bs j < k). rw (lt-ltb (at bs j) k l)
      (called-full need ws bs first j (rw (← add-one (at bs j)) (omega (arith, below-rise ws bs (at bs j + 1) k (omega arith))))))
      (λ (l : k ≤ at bs j). rw (le-ltb (at bs j) k l)) (lt-or-le (at bs j) k)

  -- the walk may end before bid k if the bands from k up are called for nothing
  ended : (k left : ℕ) (cs : List ℕ) → Walked need ws bs first k left cs → ((j : ℕ) → k ≤ at bs j → called_in need ws bs first j ≡ 0)
      → left ≡ need - whole ws → TierCalled need ws bs first left cs
  ended k left cs w none e =
      record {
        called = unfold tier_calls in table_is 0 cs (length ws) (called_in need ws bs first) w.room (λ j l. w.is j ∙ all j);
        beyond = e;
      }
    where
      all : (j : ℕ) → done need ws bs first k j ≡ called_in need ws bs first j
      all j =
          unfold done in
          ⊎_elim (λ (m : at bs j < k). rw (lt-ltb (at bs j) k m)) (λ (m : k ≤ at bs j). rw (le-ltb (at bs j) k m) (sym (none j m)))
          (lt-or-le (at bs j) k)

-- a need of 0 is met before the walk
pub ended-unneeded : (need : ℕ) (ws bs : List ℕ) (first : ℕ) (cs : List ℕ) → Ready ws bs first cs → need ≡ 0 → TierCalled need ws bs first need cs
ended-unneeded need ws bs first cs r z =
    record {
      called =
          unfold tier_calls in
          table_is 0 cs (length ws) (called_in need ws bs first) r.room (λ j l. r.blank j ∙ sym (called-met need ws bs first j (omega arith)));
      beyond = omega arith;
    }

-- what lower bids leave, with what they took, is the need
pub ended-whole : (need : ℕ) (ws bs : List ℕ) (first k s left r : ℕ) (cs : List ℕ) → Margin need ws bs k → s ≡ below ws bs k → left ≡ need - s
    → TierCalled (left + below ws bs k) ws bs first r cs → TierCalled need ws bs first r cs
ended-whole need ws bs first k s left r cs m e f t =
    let all : left + below ws bs k ≡ need = omega (arith, m.reached) in rw (← all) t

-- the walk from bid k₀ on, with `start` left by the bands below it
module _ (start : ℕ) (ws bs : List ℕ) (first k₀ : ℕ) (cs₀ : List ℕ) (good : Begun ws bs first k₀ cs₀) where
  abbrev need : ℕ
  need = start + below ws bs k₀

  begun-long : length cs₀ ≡ length ws
  unfolding cheap_in
  begun-long = ap length good.is ∙ table-length (length ws) (under ws bs k₀)

  pub walked-first : Walked need ws bs first k₀ start cs₀
  unfolding cheap_in
  walked-first =
      record {
        left_is = omega arith;
        room = begun-long;
        is = λ j. ap (λ (l : List ℕ). at l j) good.is ∙ stands j ∙ sym (done_full need ws bs first k₀ j (omega arith));
      }
    where
      stands : (j : ℕ) → at (table (length ws) (under ws bs k₀)) j ≡ under ws bs k₀ j
      stands j =
          ⊎_elim (λ (l : j < length ws). table_at 0 (length ws) (under ws bs k₀) j l)
          (λ (l : length ws ≤ j). table-past 0 (length ws) (under ws bs k₀) j l ∙ sym (under-past ws bs k₀ j l)) (lt-or-le j (length ws))

  module _ (k left : ℕ) (cs : List ℕ) (w : Walked need ws bs first k left cs) where
    pub ended-past : past ≤ k → TierCalled need ws bs first left cs
    ended-past h =
        ended need ws bs first k left cs w (λ j m. absurd (omega (arith, low j)))
        (w.left_is ∙ ap (λ (x : ℕ). need - x) (below_all ws bs k low))
      where
        low : (j : ℕ) → at bs j < k
        low j = omega (arith, good.columns.low j)

    ended-none : left ≡ 0 → TierCalled need ws bs first left cs
    ended-none z =
        ended need ws bs first k left cs w
        (λ j m. called-met need ws bs first j (omega (arith, w.left_is, below-rise ws bs k (at bs j) m)))
        (omega (arith, w.left_is, below-le ws bs k))

  -- the turn of one bid, from the column cs₁, with `now` left
  module _ (k now : ℕ) (cs₁ ps : List ℕ) (w : Walked need ws bs first k now cs₁) (e : ps ≡ parts_in now (group_in ws bs k) first) where
    parts_are : ps ≡ parts_of need ws bs first k
    parts_are = e ∙ ap (λ (x : ℕ). parts_in x (group_in ws bs k) first) w.left_is

    parts_long : length ps ≡ length ws
    parts_long = ap length parts_are ∙ parts-length need ws bs first k

    parts-total : sum_to (length ps) (at ps) ≡ min now (whole (group_in ws bs k))
    parts-total =
        rw parts_long
        (ap (λ (l : List ℕ). sum_to (length ws) (at l)) parts_are ∙ parts-sum need ws bs first good.inside k
        ∙ ap (λ (x : ℕ). min x (whole (group_in ws bs k))) (sym w.left_is))

    -- what row j is called for below the next bid
    called-next : (j : ℕ) → at cs₁ j + at ps j ≡ done need ws bs first (k + 1) j
    called-next j =
        omega (arith, w.is j, ap (λ (l : List ℕ). at l j) parts_are, parts_at need ws bs first k j, done_next need ws bs first k j)

    pub turned-first : Turned now cs₁ ps 0 now cs₁
    unfolding sum_to
    turned-first =
        record {
          few = omega (arith, parts_long, good.columns.few);
          level = w.room ∙ sym parts_long;
          small = λ j. omega (arith, called-next j, done-le need ws bs first (k + 1) j, good.columns.narrow j);
          covered = omega (arith, parts-total);
          within = omega arith;
          room = refl;
          left_is = omega arith;
          is = λ j. rw (le-ltb j 0 (omega arith)) (omega arith);
        }

    all_done : (i left : ℕ) (cs : List ℕ) → Turned now cs₁ ps i left cs → sum_to i (at ps) ≡ sum_to (length ps) (at ps)
        → Walked need ws bs first (k + 1) left cs
    all_done i left cs t all =
        record {
          left_is = rw (add-one k) (omega (arith, t.left_is, all, parts-total, w.left_is, below_next ws bs k));
          room = t.room ∙ w.room;
          is = λ j. all-called now cs₁ ps i left cs t all j ∙ called-next j;
        }

    module _ (i left : ℕ) (cs : List ℕ) (t : Turned now cs₁ ps i left cs) where
      pub walked_next : (n : ℕ) → k < past → length ps ≤ i → n ≡ next_bid k bs → Walked need ws bs first n left cs
      walked_next n h l f =
          let all : i ≡ length ps = omega (arith, t.within) in
          walked_skip need ws bs first k n left cs h f (all_done i left cs t (ap (λ (m : ℕ). sum_to m (at ps)) all))

      -- the need is met once row i is called for its part: r is left then
      module _ (part r : ℕ) (f : part ≡ at ps i) (g : r ≡ left - part) (l : i < length ps) where
        pub ended-met : r ≡ 0 → TierCalled need ws bs first r (set cs i (at cs i + part))
        ended-met z =
            let next : Turned now cs₁ ps (i + 1) r (set cs i (at cs i + part)) = turned-next now cs₁ ps i left cs t part r f g l in
            ended-none (k + 1) r (set cs i (at cs i + part))
            (all_done (i + 1) r (set cs i (at cs i + part)) next
            (omega (arith, next.left_is, next.covered, sum-shorter (i + 1) (length ps) (at ps) (omega arith)))) z

-- past every bid there is no walk: the bands that are called in full are all
module _ (need : ℕ) (ws bs : List ℕ) (first k s : ℕ) (cs₀ cs : List ℕ) (r : Ready ws bs first cs₀) (is : cs ≡ cheap_in ws bs k) where
  begun : Begun ws bs first k cs
  begun = record { columns = r.columns; inside = r.inside; is = is }

  pub ended-full : (left : ℕ) → Margin need ws bs k → s ≡ below ws bs k → left ≡ need - s → past ≤ k → TierCalled need ws bs first left cs
  ended-full left m e f h =
      ended-whole need ws bs first k s left left cs m e f
      (ended-past left ws bs first k cs begun k left cs (walked-first left ws bs first k cs begun) h)
