-- How many rounds there are, and who closed in which.
--     Counted            rounds and open payers together are at most the payers; each round has somebody who closed in it
--     opening-counted    it holds before the first round
--     mark-stays         the mark of whoever has closed stays
--     next-counted       a round in which somebody closes keeps it
--     final-counted      it holds after the last round
--     opens-inside       a payer is open or has closed
--     rounds-count       the rounds are at most the payers of weight above 0
--     rounds-capped      they are at most the capped of them
--     marks-rounds       no closing round is above the number of rounds
--     round-somebody     in each round a capped payer closed, one of weight above 0
--     rounds-max         the number of rounds is the largest closing round
use Prim.Native.Nat.{ℕ, suc, ◌+◌, ◌≤◌, ◌<◌}
use mathlib.Core.Path.{◌≡◌, refl, sym, ◌∙◌}
use mathlib.Core.Logic.{◌⊎◌, ⊎_elim}
use mathlib.Core.Bool.{Bool, true, false, cond, ◌&&◌, not}
use mathlib.Core.List.{List}
use native.Mathlib.Nat.{eq-zero-or-pos, le_refl}
use native.Mathlib.Omega.{arith}
use lib.Dec.{ltb, eqb}
use lib.ListN.{length}
use borrow.Author.Tests.{eqb-true}
use Rattle.columns.specs.Sum.{bit, count_to, max_to}
use Rattle.columns.specs.Table.{at, Below}
use Rattle.columns.proofs.First.{right-true}
use Rattle.columns.proofs.Sum.{lt-or-le, count_none, count-sub, max-bound, max-term}
use Rattle.columns.proofs.Mask.{count-parts}
use Rattle.columns.proofs.Rank.{some_or_none}
use Rattle.levy.specs.Rounds.{Standing, is_open, payers, opens, closes, next, opening, final}
use Rattle.levy.specs.Capped.{has_closed, inside, payers_inside}
use Rattle.levy.proofs.Step.{run-keeps, closes-not-yet, mark-next, next-rounds, opens-fall, final-sound}

pub record Counted (ws : List ℕ) (st : Standing) : Type 0 where
  pub early : st.rounds + opens ws st.marks ≤ payers ws
  pub somebody : (r : ℕ) → 0 < r → r ≤ st.rounds → (i : ℕ) × (i < length ws) × (at st.marks i ≡ r)

pub opens-payers : (ws marks : List ℕ) → opens ws marks ≤ payers ws
unfolding opens payers
opens-payers ws marks =
    count-sub (length ws) (is_open ws marks) (λ i. ltb 0 (at ws i)) (λ i l e. right-true (eqb (at marks i) 0) (ltb 0 (at ws i)) e)

-- a payer is open or has closed
pub opens-inside : (ws marks : List ℕ) → payers ws ≡ opens ws marks + payers_inside ws (has_closed marks)
unfolding opens payers payers_inside
opens-inside ws marks =
    count-parts (length ws) (λ i. ltb 0 (at ws i)) (is_open ws marks) (inside ws (has_closed marks))
    (λ i l. each (eqb (at marks i) 0) (ltb 0 (at ws i)))
  where
    each : (s t : Bool) → bit t ≡ bit (s && t) + bit (t && not s)
    each true true = refl
    each true false = refl
    each false true = refl
    each false false = refl

pub opening-counted : (total : ℕ) (ws : List ℕ) → Counted ws (opening total ws)
unfolding opening
opening-counted total ws =
    record { early = omega (arith, opens-payers ws (opening total ws).marks); somebody = λ r some le. absurd (omega arith) }

module _ (ws cs : List ℕ) (st : Standing) where
  pub mark-stays : (i : ℕ) → i < length ws → 0 < at st.marks i → at (next ws cs st).marks i ≡ at st.marks i
  mark-stays i l some = mark-next ws cs st i l ∙ same (closes ws cs st i) refl
    where
      same : (t : Bool) → closes ws cs st i ≡ t → cond t (suc st.rounds) (at st.marks i) ≡ at st.marks i
      same true e = absurd (omega (arith, eqb-true (at st.marks i) 0 (closes-not-yet ws cs st i e)))
      same false e = refl

  pub next-counted : 0 < count_to (length ws) (closes ws cs st) → Counted ws st → Counted ws (next ws cs st)
  next-counted some h =
      record {
        early = omega (arith, next-rounds ws cs st, opens-fall ws cs st, h.early);
        somebody = λ r up le. ⊎_elim
            (λ (k : r < suc st.rounds).
            let w = h.somebody r up (omega arith) in
            let up' : 0 < at st.marks w.0 = omega (arith, w.2) in
            (w.0, w.1, mark-stays w.0 w.1 up' ∙ w.2))
            (λ (k : suc st.rounds ≤ r). last r (omega (arith, next-rounds ws cs st)) (some_or_none (length ws) (closes ws cs st)))
            (lt-or-le r (suc st.rounds));
      }
    where
      last : (r : ℕ) → r ≡ suc st.rounds → ((i : ℕ) × (i < length ws) × (closes ws cs st i ≡ true)) ⊎ Below (length ws) (λ i. closes ws cs st i ≡ false)
          → (i : ℕ) × (i < length ws) × (at (next ws cs st).marks i ≡ r)
      last r e found =
          ⊎_elim
          (λ (w : (i : ℕ) × (i < length ws) × (closes ws cs st i ≡ true)). (w.0, w.1, mark-next ws cs st w.0 w.1 ∙ rw w.2 (sym e)))
          (λ (none : Below (length ws) (λ i. closes ws cs st i ≡ false)). absurd (omega (arith, count_none (length ws) (closes ws cs st) none)))
          found

module _ (total : ℕ) (ws cs : List ℕ) where
  -- how things stand after the last round
  abbrev end : Standing
  end = final total ws cs

  pub final-counted : Counted ws end
  unfolding final
  final-counted = run-keeps ws cs (Counted ws) (next-counted ws cs) (length ws) (opening total ws) (opening-counted total ws)

  pub rounds-count : end.rounds ≤ payers ws
  rounds-count = omega (arith, final-counted.early)

  pub rounds-capped : end.rounds ≤ payers_inside ws (has_closed end.marks)
  rounds-capped = omega (arith, final-counted.early, opens-inside ws end.marks)

  pub marks-rounds : (i : ℕ) → at end.marks i ≤ end.rounds
  marks-rounds i = (final-sound total ws cs).marks_le i

  pub round-somebody : (r : ℕ) → 0 < r → r ≤ end.rounds → (i : ℕ) × (0 < at ws i) × (at end.marks i ≡ r)
  round-somebody r up le =
      let w = final-counted.somebody r up le in
      (w.0, (final-sound total ws cs).payers w.0 (omega (arith, w.2)), w.2)

  pub rounds-max : end.rounds ≡ max_to (length ws) (at end.marks)
  rounds-max =
      ⊎_elim (λ (e : end.rounds ≡ 0). omega (arith, bound))
      (λ (up : 0 < end.rounds).
      let w = final-counted.somebody end.rounds up (le_refl end.rounds) in
      omega (arith, bound, w.2, max-term (length ws) (at end.marks) w.0 w.1))
      (eq-zero-or-pos end.rounds)
    where
      bound : max_to (length ws) (at end.marks) ≤ end.rounds
      bound = max-bound (length ws) end.rounds (at end.marks) (λ i l. marks-rounds i)
