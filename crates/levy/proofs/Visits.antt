-- How much work the rounds are (02, request 8): payer visits.
--     visits-stop      where nobody closes, each open payer is visited once more
--     visits-more      where somebody closes, each open payer once, and then as the next rounds go
--     visits-enough    from as many rounds as there are open payers on, more make no difference
--     visits-told      the visits are the closing rounds added up, and for each payer that never closes the rounds and one more
--     visits-most      m payers are visited at most m (m + 1) / 2 times
--     visits-least     each payer is visited
--     visits-quiet     and only once, if nobody ever closes
use Prim.Native.Nat.{ℕ, zero, suc, ◌+◌, ◌*◌, ◌/◌, ◌≤◌, ◌<◌}
use mathlib.Core.Path.{◌≡◌, refl, ap, ◌∙◌}
use mathlib.Core.Logic.{⊎_elim}
use mathlib.Core.Bool.{true, cond}
use mathlib.Core.List.{List}
use native.Mathlib.Nat.{eq-zero-or-pos, mul-le-mul_left}
use native.Mathlib.Omega.{arith}
use lib.Dec.{ltb, eqb}
use lib.ListN.{length}
use borrow.Author.Tests.{eq-eqb, ne_eqb}
use Rattle.columns.specs.Sum.{count_to, sum_where}
use Rattle.columns.specs.Table.{at}
use Rattle.columns.proofs.First.{left-true}
use Rattle.columns.proofs.Sum.{count_same}
use Rattle.columns.proofs.Mask.{where-same, where-parts, where-each, where-cross-lt}
use Rattle.levy.specs.Rounds.{Standing, is_open, is_payer, payers, opens, closes, next, run, opening, final, visits_from, visits, looks, visits_told}
use Rattle.levy.proofs.Step.{mark-next, next-rounds, open-parts, opens-fall, opens-none, run-stop, run_more, run-enough, run-keeps, opens-le, opening-mark}
use Rattle.levy.proofs.Count.{mark-stays, marks-rounds}

-- how often the payer at a position has been looked at in all, by how things stand at the end
abbrev looked : Standing → ℕ → ℕ
looked end i = looks end.rounds (at end.marks i)

looks-open : (rounds mark : ℕ) → eqb mark 0 ≡ true → looks rounds mark ≡ rounds + 1
unfolding looks
looks-open rounds mark e = rw e

looks-closed : (rounds mark m : ℕ) → mark ≡ suc m → looks rounds mark ≡ suc m
unfolding looks
looks-closed rounds mark m e = rw (e, ne_eqb (suc m) 0 (omega arith))

looks-some : (rounds mark : ℕ) → 0 < looks rounds mark
unfolding looks
looks-some rounds zero = omega arith
looks-some rounds (suc m) = rw (ne_eqb (suc m) 0 (omega arith)) (omega arith)

-- k payers stay open and c close, and the k are visited v times from the next round on
twice-next : (k c v : ℕ) → 0 < c → 2 * v ≤ k * (k + 1) → 2 * ((k + c) + v) ≤ (k + c) * ((k + c) + 1)
twice-next k c v some h = omega (arith, mul-le-mul_left k some, mul-le-mul_left c some)

twice-once : (k : ℕ) → 2 * k ≤ k * (k + 1)
twice-once k =
    ⊎_elim (λ (z : k ≡ 0). omega arith) (λ (some : 0 < k). omega (arith, mul-le-mul_left k some)) (eq-zero-or-pos k)

module _ (ws cs : List ℕ) where
  pub visits-stop : (st : Standing) → count_to (length ws) (closes ws cs st) ≡ 0 → (f : ℕ) → opens ws st.marks ≤ f
      → visits_from f ws cs st ≡ opens ws st.marks
  unfolding visits_from
  visits-stop st e zero l = omega arith
  visits-stop st e (suc f) l = rw (eq-eqb (count_to (length ws) (closes ws cs st)) 0 e) (omega arith)

  pub visits-more : (st : Standing) → 0 < count_to (length ws) (closes ws cs st) → (f : ℕ)
      → visits_from (suc f) ws cs st ≡ opens ws st.marks + visits_from f ws cs (next ws cs st)
  unfolding visits_from
  visits-more st some f = rw (ne_eqb (count_to (length ws) (closes ws cs st)) 0 (omega arith))

  -- ---- at most

  twice : (f : ℕ) (st : Standing) → opens ws st.marks ≤ f
      → 2 * visits_from f ws cs st ≤ opens ws st.marks * (opens ws st.marks + 1)
  twice zero st l = unfold visits_from in omega arith
  twice (suc f) st l =
      ⊎_elim (λ (e : count_to (length ws) (closes ws cs st) ≡ 0). rw (visits-stop st e (suc f) l) (twice-once (opens ws st.marks)))
      (λ (some : 0 < count_to (length ws) (closes ws cs st)).
      let after = next ws cs st in
      rw (visits-more st some f, ← (opens-fall ws cs st))
      (twice-next (opens ws after.marks) (count_to (length ws) (closes ws cs st)) (visits_from f ws cs after) some
      (twice f after (omega (arith, opens-fall ws cs st)))))
      (eq-zero-or-pos (count_to (length ws) (closes ws cs st)))

  -- ---- by the closing rounds

  -- who has closed keeps its mark to the end
  mark-kept : (f : ℕ) (st : Standing) (i m : ℕ) → i < length ws → 0 < m → at st.marks i ≡ m → at (run f ws cs st).marks i ≡ m
  mark-kept f st i m l some =
      run-keeps ws cs (λ st. at st.marks i ≡ m) (λ st _ e. mark-stays ws cs st i l (omega arith) ∙ e) f st

  -- the visits from a standing on, told by its end: those of the open payers in all, of which each has had one in every round before
  abbrev ToldFrom : ℕ → Standing → Type 0
  ToldFrom f st =
      visits_from f ws cs st + st.rounds * opens ws st.marks ≡ sum_where (length ws) (is_open ws st.marks) (looked (run f ws cs st))

  module _ (st : Standing) where
    told-stop : (f : ℕ) → opens ws st.marks ≤ f → count_to (length ws) (closes ws cs st) ≡ 0 → ToldFrom f st
    told-stop f l e =
        rw (visits-stop st e f l, run-stop ws cs st e f)
        (omega (arith, opened, where-each (length ws) (st.rounds + 1) (is_open ws st.marks) (looked st) unmarked))
      where
        unmarked : (i : ℕ) → i < length ws → is_open ws st.marks i ≡ true → looked st i ≡ st.rounds + 1
        unmarked i l e = looks-open st.rounds (at st.marks i) (left-true (eqb (at st.marks i) 0) (ltb 0 (at ws i)) e)

        opened : (st.rounds + 1) * opens ws st.marks ≡ (st.rounds + 1) * count_to (length ws) (is_open ws st.marks)
        opened = unfold opens in refl

    told_more : (f : ℕ) → 0 < count_to (length ws) (closes ws cs st) → ToldFrom f (next ws cs st) → ToldFrom (suc f) st
    told_more f some later =
        rw (visits-more st some f, run_more ws cs st some f)
        (omega (
          arith,
          later,
          opens-fall ws cs st,
          ap (λ (x : ℕ). st.rounds * x) (opens-fall ws cs st),
          ap (λ (x : ℕ). x * opens ws (next ws cs st).marks) (next-rounds ws cs st),
          where-parts (length ws) (is_open ws st.marks) (is_open ws (next ws cs st).marks) (closes ws cs st) end
              (λ i l. open-parts ws cs st (λ t. cond t (end i) 0) refl i l),
          where-each (length ws) (st.rounds + 1) (closes ws cs st) end marked,
        ))
      where
        end : ℕ → ℕ
        end = looked (run f ws cs (next ws cs st))

        -- whoever closes now has the mark of this round at the end
        marked : (i : ℕ) → i < length ws → closes ws cs st i ≡ true → looked (run f ws cs (next ws cs st)) i ≡ st.rounds + 1
        marked i l e =
            looks-closed (run f ws cs (next ws cs st)).rounds (at (run f ws cs (next ws cs st)).marks i) st.rounds
            (mark-kept f (next ws cs st) i (suc st.rounds) l (omega arith) (mark-next ws cs st i l ∙ rw e))
            ∙ omega arith

  told-from : (f : ℕ) (st : Standing) → opens ws st.marks ≤ f → ToldFrom f st
  told-from zero st l = told-stop st zero l (opens-none ws cs st (omega arith))
  told-from (suc f) st l =
      ⊎_elim (λ (e : count_to (length ws) (closes ws cs st) ≡ 0). told-stop st (suc f) l e)
      (λ (some : 0 < count_to (length ws) (closes ws cs st)).
      told_more st f some (told-from f (next ws cs st) (omega (arith, opens-fall ws cs st))))
      (eq-zero-or-pos (count_to (length ws) (closes ws cs st)))

  pub visits-enough : (f g : ℕ) (st : Standing) → opens ws st.marks ≤ f → opens ws st.marks ≤ g → visits_from f ws cs st ≡ visits_from g ws cs st
  visits-enough f g st l m =
      omega (
        arith,
        told-from f st l,
        told-from g st m,
        ap (λ (end : Standing). sum_where (length ws) (is_open ws st.marks) (looked end)) (run-enough ws cs f g st l m),
      )

-- ---- from the first round on

module _ (total : ℕ) (ws cs : List ℕ) where
  abbrev end : Standing
  end = final total ws cs

  -- before the first round every payer is open
  all-open : (i : ℕ) → is_open ws (opening total ws).marks i ≡ is_payer ws i
  all-open i = rw (opening-mark total ws cs i)

  opens-all : opens ws (opening total ws).marks ≡ payers ws
  unfolding opens payers
  opens-all = count_same (length ws) (is_open ws (opening total ws).marks) (is_payer ws) (λ i l. all-open i)

  pub visits-told : visits total ws cs ≡ visits_told ws end.marks end.rounds
  unfolding visits visits_told final
  visits-told =
      omega (arith, none, told-from ws cs (length ws) (opening total ws) (opens-le ws (opening total ws).marks))
      ∙ where-same (length ws) (is_open ws (opening total ws).marks) (is_payer ws) (looked end) (looked end) (λ i l. all-open i) (λ i l. refl)
    where
      none : (opening total ws).rounds * opens ws (opening total ws).marks ≡ 0
      none = unfold opening in omega arith

  pub visits-most : visits total ws cs ≤ payers ws * (payers ws + 1) / 2
  unfolding visits
  visits-most = rw (← opens-all) (omega (arith, twice ws cs (length ws) (opening total ws) (opens-le ws (opening total ws).marks)))

  pub visits-least : payers ws ≤ visits total ws cs
  unfolding payers visits_told
  visits-least =
      rw visits-told
      (omega (arith, where-cross-lt (length ws) (is_payer ws) 0 1 (looked end) (looked end) (λ i l e. omega (arith, looks-some end.rounds (at end.marks i)))))

  pub visits-quiet : end.rounds ≡ 0 → visits total ws cs ≡ payers ws
  unfolding payers visits_told
  visits-quiet none =
      visits-told
      ∙ where-each (length ws) 1 (is_payer ws) (looked end) (λ i l e. looks-open end.rounds (at end.marks i) (eq-eqb (at end.marks i) 0 (unmarked i)) ∙ omega arith)
      ∙ omega arith
    where
      unmarked : (i : ℕ) → at end.marks i ≡ 0
      unmarked i = omega (arith, marks-rounds total ws cs i)
