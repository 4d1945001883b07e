-- The common rate, money over weight, through the rounds; two rates are compared crosswise, without fractions.
--     rate-kept        no round lowers the rate
--     rate-run         nor do any number of rounds
--     rate-final       the last rate is at least total over all the weight
--     Fair             each that has closed owes at least its cap at the rate that stands
--     next-fair        a round keeps that
--     capped-owe       after the last round each that closed owes at least its cap
--     open-owe         and each open payer owes less than its cap
--     open-weight      while somebody is open there is weight left
--     weight-closed    no weight is left: every payer of weight above 0 has closed
--     closed-weight    every payer of weight above 0 has closed: no weight is left
use Prim.Native.Nat.{ℕ, suc, ◌+◌, ◌*◌, ◌≤◌, ◌<◌}
use mathlib.Core.Path.{◌≡◌, refl, ◌∙◌}
use mathlib.Core.Logic.{⊎_elim}
use mathlib.Core.Bool.{Bool, true, false, cond}
use mathlib.Core.List.{List}
use native.Mathlib.Nat.{eq-zero-or-pos, le_refl, mul-le-mul_right, le_of_mul-le-mul_right}
use native.Mathlib.Omega.{arith}
use lib.Dec.{leb}
use lib.ListN.{length, get_or-eq_default}
use borrow.Author.Tests.{lt-ltb, leb-false, eq-eqb, eqb-true}
use Rattle.columns.specs.Sum.{whole}
use Rattle.columns.specs.Table.{at}
use Rattle.columns.proofs.Sum.{lt-or-le, count-some}
use Rattle.columns.proofs.Mask.{where-zero, where-term}
use Rattle.columns.proofs.Rank.{test-or}
use Rattle.levy.specs.Rounds.{Standing, closes, closed, next, run, opening, final}
use Rattle.levy.proofs.Step.{Sound, not_closed, run-keeps, closed-cross, closed-caps-le, closed-weights-le, closes-owe, inside-weight}
use Rattle.levy.proofs.Step.{mark-next, mark-past, next-money, next-weight, next-sound, opening-sound, opening-mark, final-ends}

-- the step in plain numbers: caps a and weights b close, whose rate is at most the money's
fall : (R W r w a b : ℕ) → R ≡ r + a → W ≡ w + b → a * W ≤ R * b → R * w ≤ r * W
fall R W r w a b eR eW cross = rw (eR, eW) (omega (arith, rw (eR, eW) at cross))

-- one rate after another
chain : (R₀ W₀ R₁ W₁ R₂ W₂ : ℕ) → W₂ ≤ W₁ → R₀ * W₁ ≤ R₁ * W₀ → R₁ * W₂ ≤ R₂ * W₁ → R₀ * W₂ ≤ R₂ * W₀
chain R₀ W₀ R₁ W₁ R₂ W₂ falls h k =
    ⊎_elim (λ (e : W₁ ≡ 0). let z : W₂ ≡ 0 = omega arith in rw z (omega arith))
    (λ (some : 0 < W₁). le_of_mul-le-mul_right {k = W₁} (omega (arith, mul-le-mul_right W₂ h, mul-le-mul_right W₀ k)) some)
    (eq-zero-or-pos W₁)

-- everybody that has closed owes at least its cap at the rate of the standing
abbrev pub Fair : List ℕ → List ℕ → Standing → Type 0
Fair ws cs st = (i : ℕ) → 0 < at st.marks i → at cs i * st.weight ≤ st.money * at ws i

module _ (total : ℕ) (ws cs : List ℕ) where
  pub rate-kept : (st : Standing) → Sound total ws cs st → st.money * (next ws cs st).weight ≤ (next ws cs st).money * st.weight
  rate-kept st s =
      fall st.money st.weight (next ws cs st).money (next ws cs st).weight (closed ws cs st cs) (closed ws cs st ws)
      (omega (arith, next-money ws cs st, closed-caps-le total ws cs st s)) (omega (arith, next-weight ws cs st, closed-weights-le total ws cs st s))
      (closed-cross ws cs st)

  -- the rate and the weight of a standing, against an earlier one
  record Later (R W : ℕ) (st : Standing) : Type 0 where
    sound : Sound total ws cs st
    lighter : st.weight ≤ W
    dearer : R * st.weight ≤ st.money * W

  later-next : (R W : ℕ) (st : Standing) → Later R W st → Later R W (next ws cs st)
  later-next R W st h =
      record {
        sound = next-sound total ws cs st h.sound;
        lighter = omega (arith, next-weight ws cs st);
        dearer = chain R W st.money st.weight (next ws cs st).money (next ws cs st).weight (omega (arith, next-weight ws cs st)) h.dearer
            (rate-kept st h.sound);
      }

  pub rate-run : (f : ℕ) (st : Standing) → Sound total ws cs st → st.money * (run f ws cs st).weight ≤ (run f ws cs st).money * st.weight
  rate-run f st s =
      (run-keeps ws cs (Later st.money st.weight) (λ u some h. later-next st.money st.weight u h) f st
      (record { sound = s; lighter = le_refl st.weight; dearer = le_refl (st.money * st.weight) })).dearer

  pub rate-final : total * (final total ws cs).weight ≤ (final total ws cs).money * whole ws
  unfolding final opening
  rate-final = rate-run (length ws) (opening total ws) (opening-sound total ws cs)

  pub next-fair : (st : Standing) → Sound total ws cs st → Fair ws cs st → Fair ws cs (next ws cs st)
  next-fair st s fair i q =
      ⊎_elim
      (λ (l : i < length ws).
      let owe : at cs i * st.weight ≤ st.money * at ws i = owed (closes ws cs st i) refl (rw (mark-next ws cs st i l) at q) in
      ⊎_elim (λ (e : st.weight ≡ 0). let z : (next ws cs st).weight ≡ 0 = omega (arith, next-weight ws cs st) in rw z (omega arith))
      (λ (some : 0 < st.weight).
      le_of_mul-le-mul_right {k = st.weight}
      (omega (arith, mul-le-mul_right (next ws cs st).weight owe, mul-le-mul_right (at ws i) (rate-kept st s))) some)
      (eq-zero-or-pos st.weight))
      (λ (l : length ws ≤ i). absurd (omega (arith, mark-past ws cs st i l))) (lt-or-le i (length ws))
    where
      owed : (t : Bool) → closes ws cs st i ≡ t → 0 < cond t (suc st.rounds) (at st.marks i) → at cs i * st.weight ≤ st.money * at ws i
      owed true e k = closes-owe ws cs st i e
      owed false e k = fair i k

  -- sound and fair together, as the rounds keep them
  record Just (st : Standing) : Type 0 where
    sound : Sound total ws cs st
    fair : Fair ws cs st

  pub capped-owe : Fair ws cs (final total ws cs)
  unfolding final
  capped-owe =
      (run-keeps ws cs Just (λ st some h. record { sound = next-sound total ws cs st h.sound; fair = next-fair st h.sound h.fair })
      (length ws) (opening total ws)
      (record { sound = opening-sound total ws cs; fair = λ i l. absurd (omega (arith, opening-mark total ws cs i)) })).fair

  pub open-owe : (i : ℕ) → at (final total ws cs).marks i ≡ 0 → 0 < at ws i
      → (final total ws cs).money * at ws i < at cs i * (final total ws cs).weight
  unfolding closes
  open-owe i e some =
      let st : Standing = final total ws cs in
      ⊎_elim (λ (o : leb (at cs i * st.weight) (st.money * at ws i) ≡ true).
      absurd (omega (
        arith,
        final-ends total ws cs,
        count-some (length ws) (closes ws cs st) i (inside-weight ws i some) (rw (eq-eqb (at st.marks i) 0 e, lt-ltb 0 (at ws i) some) o),
      )))
      (λ (o : leb (at cs i * st.weight) (st.money * at ws i) ≡ false). leb-false (at cs i * st.weight) (st.money * at ws i) o)
      (test-or (leb (at cs i * st.weight) (st.money * at ws i)))

  pub open-weight : (st : Standing) → Sound total ws cs st → (i : ℕ) → at st.marks i ≡ 0 → at ws i ≤ st.weight
  open-weight st s i e =
      ⊎_elim
      (λ (l : i < length ws). omega (arith, s.weight_is, where-term (length ws) (not_closed st.marks) (at ws) i l (eq-eqb (at st.marks i) 0 e)))
      (λ (l : length ws ≤ i). omega (arith, get_or-eq_default ws 0 l)) (lt-or-le i (length ws))

  pub weight-closed : (st : Standing) → Sound total ws cs st → st.weight ≡ 0 → (i : ℕ) → 0 < at ws i → 0 < at st.marks i
  weight-closed st s e i some =
      ⊎_elim (λ (z : at st.marks i ≡ 0). absurd (omega (arith, open-weight st s i z))) (λ p. p) (eq-zero-or-pos (at st.marks i))

  pub closed-weight : (st : Standing) → Sound total ws cs st → ((i : ℕ) → 0 < at ws i → 0 < at st.marks i) → st.weight ≡ 0
  closed-weight st s all =
      s.weight_is
      ∙ where-zero (length ws) (not_closed st.marks) (at ws)
      (λ i l t. ⊎_elim (λ (z : at ws i ≡ 0). z)
      (λ (some : 0 < at ws i). absurd (omega (arith, all i some, eqb-true (at st.marks i) 0 t))) (eq-zero-or-pos (at ws i)))
