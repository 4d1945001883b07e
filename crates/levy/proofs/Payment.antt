-- What everybody pays after the last round, and what is left uncovered.
--     open_at, open-length     the open weights by position, and how many
--     open-whole         the open weights add up to the weight of the standing
--     payments-length    as many payments as weights
--     payments-at        what stands in the column at i is what i pays
--     paid-open          who has not closed pays its share of the money left
--     paid-closed        who closed pays its cap
--     paid-none          weight 0 pays 0
--     paid-alike         of two open payers of one weight the one whose turn comes first pays as much as the other, or a fen more
--     sound-total        payments and shortfall of any sound standing are the total
--     paid-total         payments and shortfall together are the total
--     paid-le-cap        nobody pays above its cap, rounded fen included
--     payment-le-cap     the same of the column
--     open-rate-over, open-rate-short     an open payer pays within a fen of the common rate
--     closed-caps        the caps of the closed are at most the total
--     shortfall-none     somebody of weight above 0 is open: the shortfall is 0
--     shortfall-all      there is a shortfall: every payer of weight above 0 closed
--     all-capped         every payer of weight above 0 closed: the shortfall is the total less their caps
--     shortfall-le       the shortfall is at most the total
use Prim.Native.Nat.{ℕ, ◌+◌, ◌-◌, ◌*◌, ◌≤◌, ◌<◌}
use mathlib.Core.Path.{◌≡◌, refl, ap, sym, ◌∙◌}
use mathlib.Core.Logic.{⊎_elim}
use mathlib.Core.Bool.{Bool, true, false, cond}
use mathlib.Core.List.{List}
use native.Mathlib.Nat.{eq-zero-or-pos}
use native.Mathlib.Omega.{arith}
use lib.Dec.{eqb}
use lib.ListN.{length, get_or-eq_default}
use borrow.Author.Tests.{eq-eqb, ne_eqb}
use Rattle.columns.specs.Sum.{sum_to, whole, sum_where}
use Rattle.columns.specs.Table.{at}
use Rattle.columns.proofs.Sum.{lt-or-le, sum_same, sum-add, sum-zero}
use Rattle.columns.proofs.Table.{table-length, table_at, table-past}
use Rattle.share.specs.Share.{turn, share, shares, SameOrOneMore}
use Rattle.share.proofs.Laws.{share-alike, share-zero, share-under, share-near-over, share-near-short, shares_sum, shares-none, shares-length, shares_at}
use Rattle.levy.specs.Rounds.{Standing, final, open_weights, paid, payments, shortfall}
use Rattle.levy.specs.Capped.{has_closed, caps_inside}
use Rattle.levy.proofs.Step.{Sound, sound-caps, final-sound}
use Rattle.levy.proofs.Rate.{open-owe, open-weight, closed-weight}

-- the open weights by position
pub open_at : (ws marks : List ℕ) (i : ℕ) → at (open_weights ws marks) i ≡ cond (eqb (at marks i) 0) (at ws i) 0
unfolding open_weights
open_at ws marks i =
    ⊎_elim (λ (l : i < length ws). table_at 0 (length ws) (λ k. cond (eqb (at marks k) 0) (at ws k) 0) i l)
    (λ (l : length ws ≤ i).
    table-past 0 (length ws) (λ k. cond (eqb (at marks k) 0) (at ws k) 0) i l
    ∙ (rw (get_or-eq_default ws 0 l) (sym (same (eqb (at marks i) 0)))))
    (lt-or-le i (length ws))
  where
    same : (t : Bool) → ◌≡◌ {A = ℕ} (cond t 0 0) 0
    same true = refl
    same false = refl

pub open-length : (ws marks : List ℕ) → length (open_weights ws marks) ≡ length ws
unfolding open_weights
open-length ws marks = table-length (length ws) (λ k. cond (eqb (at marks k) 0) (at ws k) 0)

-- who has not closed still has its weight
pub open-here : (ws marks : List ℕ) (i : ℕ) → at marks i ≡ 0 → at (open_weights ws marks) i ≡ at ws i
open-here ws marks i z = open_at ws marks i ∙ rw (eq-eqb (at marks i) 0 z)

module _ (ws cs : List ℕ) (st : Standing) (first : ℕ) where
  pub paid-open : (i : ℕ) → at st.marks i ≡ 0 → paid ws cs st first i ≡ share st.money (open_weights ws st.marks) first i
  unfolding paid
  paid-open i z = rw (eq-eqb (at st.marks i) 0 z)

  pub paid-closed : (i : ℕ) → 0 < at st.marks i → paid ws cs st first i ≡ at cs i
  unfolding paid
  paid-closed i up = rw (ne_eqb (at st.marks i) 0 (omega arith))

  -- who has closed takes no part in sharing
  share-closed : (i : ℕ) → 0 < at st.marks i → share st.money (open_weights ws st.marks) first i ≡ 0
  share-closed i up =
      share-zero st.money (open_weights ws st.marks) first i (open_at ws st.marks i ∙ rw (ne_eqb (at st.marks i) 0 (omega arith)))

  -- what everybody pays, as a share and a cap one of which is 0
  paid-parts : (i : ℕ) → paid ws cs st first i ≡ at (shares st.money (open_weights ws st.marks) first) i + cond (has_closed st.marks i) (at cs i) 0
  paid-parts i =
      rw (shares_at st.money (open_weights ws st.marks) first i)
      (⊎_elim (λ (z : at st.marks i ≡ 0). rw (eq-eqb (at st.marks i) 0 z) (omega (arith, paid-open i z)))
      (λ (up : 0 < at st.marks i).
      rw (ne_eqb (at st.marks i) 0 (omega arith)) (omega (arith, paid-closed i up, share-closed i up)))
      (eq-zero-or-pos (at st.marks i)))

  pub payments-length : length (payments ws cs st first) ≡ length ws
  unfolding payments
  payments-length = table-length (length ws) (paid ws cs st first)

module _ (total : ℕ) (ws cs : List ℕ) (st : Standing) (s : Sound total ws cs st) where
  pub open-whole : whole (open_weights ws st.marks) ≡ st.weight
  unfolding whole sum_where
  open-whole =
      ap (λ (n : ℕ). sum_to n (at (open_weights ws st.marks))) (open-length ws st.marks)
      ∙ sum_same (length ws) (at (open_weights ws st.marks)) (λ k. cond (eqb (at st.marks k) 0) (at ws k) 0) (λ i l. open_at ws st.marks i)
      ∙ sym s.weight_is

  pub paid-none : (first i : ℕ) → at ws i ≡ 0 → paid ws cs st first i ≡ 0
  paid-none first i e =
      ⊎_elim
      (λ (z : at st.marks i ≡ 0). paid-open ws cs st first i z ∙ share-zero st.money (open_weights ws st.marks) first i (open-here ws st.marks i z ∙ e))
      (λ (up : 0 < at st.marks i). absurd (omega (arith, s.payers i up))) (eq-zero-or-pos (at st.marks i))

  pub payments-at : (first i : ℕ) → at (payments ws cs st first) i ≡ paid ws cs st first i
  unfolding payments
  payments-at first i =
      ⊎_elim (λ (l : i < length ws). table_at 0 (length ws) (paid ws cs st first) i l)
      (λ (l : length ws ≤ i). table-past 0 (length ws) (paid ws cs st first) i l ∙ sym (paid-none first i (get_or-eq_default ws 0 l)))
      (lt-or-le i (length ws))

  pub paid-alike : (first i j : ℕ) → first < length ws → i < length ws → at ws i ≡ at ws j → at st.marks i ≡ 0 → at st.marks j ≡ 0
      → turn (length ws) first i < turn (length ws) first j
      → SameOrOneMore (at (payments ws cs st first) i) (at (payments ws cs st first) j)
  paid-alike first i j inside l e y z before =
      let long = open-length ws st.marks in
      let weights : at (open_weights ws st.marks) i ≡ at (open_weights ws st.marks) j =
      open-here ws st.marks i y ∙ e ∙ sym (open-here ws st.marks j z) in
      rw (payments-at first i, payments-at first j, paid-open ws cs st first i y, paid-open ws cs st first j z)
      (share-alike st.money (open_weights ws st.marks) first i j (omega (arith, long, inside)) (omega (arith, long, l)) weights (rw long before))

  -- the shares of the open and the shortfall are the money
  shared-money : (first : ℕ) → (0 < length ws → first < length ws)
      → whole (shares st.money (open_weights ws st.marks) first) + shortfall st ≡ st.money
  unfolding shortfall
  shared-money first inside =
      ⊎_elim
      (λ (e : st.weight ≡ 0). rw (eq-eqb st.weight 0 e) (omega (arith, none e)))
      (λ (some : 0 < st.weight).
      rw (ne_eqb st.weight 0 (omega arith))
      (omega (arith, shares_sum st.money (open_weights ws st.marks) first (omega (arith, open-whole)) (rw (open-length ws st.marks) inside))))
      (eq-zero-or-pos st.weight)
    where
      none : st.weight ≡ 0 → whole (shares st.money (open_weights ws st.marks) first) ≡ 0
      none e =
          unfold whole in
          sum-zero (length (shares st.money (open_weights ws st.marks) first)) (at (shares st.money (open_weights ws st.marks) first))
          (λ i l. shares-none st.money (open_weights ws st.marks) first (open-whole ∙ e) i)

  -- payments are the shares of the open and the caps of the closed
  paid-whole : (first : ℕ) → whole (payments ws cs st first)
      ≡ whole (shares st.money (open_weights ws st.marks) first) + sum_where (length ws) (has_closed st.marks) (at cs)
  unfolding whole sum_where
  paid-whole first =
      rw (payments-length ws cs st first, shares-length st.money (open_weights ws st.marks) first, open-length ws st.marks)
      (sum_same (length ws) (at (payments ws cs st first))
      (λ i. at (shares st.money (open_weights ws st.marks) first) i + cond (has_closed st.marks i) (at cs i) 0)
      (λ i l. payments-at first i ∙ paid-parts ws cs st first i)
      ∙ sum-add (length ws) (at (shares st.money (open_weights ws st.marks) first)) (λ i. cond (has_closed st.marks i) (at cs i) 0))

  pub sound-total : (first : ℕ) → (0 < length ws → first < length ws) → whole (payments ws cs st first) + shortfall st ≡ total
  sound-total first inside = omega (arith, paid-whole first, shared-money first inside, s.money_is)

  pub sound-shortfall : shortfall st ≤ total
  unfolding shortfall
  sound-shortfall = each (eqb st.weight 0)
    where
      each : (t : Bool) → cond t st.money 0 ≤ total
      each true = omega (arith, s.money_is)
      each false = omega arith

module _ (total : ℕ) (ws cs : List ℕ) where
  -- how things stand after the last round
  abbrev end : Standing
  end = final total ws cs

  abbrev end-sound : Sound total ws cs end
  end-sound = final-sound total ws cs

  pub paid-total : (first : ℕ) → (0 < length ws → first < length ws) → whole (payments ws cs end first) + shortfall end ≡ total
  paid-total first inside = sound-total total ws cs end end-sound first inside

  pub paid-le-cap : (first i : ℕ) → paid ws cs end first i ≤ at cs i
  paid-le-cap first i =
      ⊎_elim
      (λ (z : at end.marks i ≡ 0). ⊎_elim (λ (e : at ws i ≡ 0). omega (arith, paid-none total ws cs end end-sound first i e))
      (λ (some : 0 < at ws i).
      rw (paid-open ws cs end first i z)
      (share-under end.money (open_weights ws end.marks) first i (at cs i)
      (rw (open-whole total ws cs end end-sound, open-here ws end.marks i z) (open-owe total ws cs i z some))))
      (eq-zero-or-pos (at ws i)))
      (λ (up : 0 < at end.marks i). omega (arith, paid-closed ws cs end first i up)) (eq-zero-or-pos (at end.marks i))

  pub payment-le-cap : (first i : ℕ) → at (payments ws cs end first) i ≤ at cs i
  payment-le-cap first i = omega (arith, payments-at total ws cs end end-sound first i, paid-le-cap first i)

  open-some : (i : ℕ) → at end.marks i ≡ 0 → 0 < at ws i → 0 < whole (open_weights ws end.marks)
  open-some i z some = omega (arith, open-whole total ws cs end end-sound, open-weight total ws cs end end-sound i z)

  -- an open payer's payment is money times weight over the open weight, off by less than one
  pub open-rate-over : (first i : ℕ) → at end.marks i ≡ 0 → 0 < at ws i
      → paid ws cs end first i * end.weight < end.money * at ws i + end.weight
  open-rate-over first i z some =
      let near = share-near-over end.money (open_weights ws end.marks) first i (open-some i z some) in
      rw (paid-open ws cs end first i z) (rw (open-whole total ws cs end end-sound, open-here ws end.marks i z) at near)

  pub open-rate-short : (first i : ℕ) → at end.marks i ≡ 0 → 0 < at ws i
      → end.money * at ws i < paid ws cs end first i * end.weight + end.weight
  open-rate-short first i z some =
      let near = share-near-short end.money (open_weights ws end.marks) first i (open-some i z some) in
      rw (paid-open ws cs end first i z) (rw (open-whole total ws cs end end-sound, open-here ws end.marks i z) at near)

  pub closed-caps : caps_inside ws cs (has_closed end.marks) ≤ total
  closed-caps = omega (arith, sound-caps total ws cs end end-sound)

  pub all-capped : ((i : ℕ) → 0 < at ws i → 0 < at end.marks i) → shortfall end ≡ total - caps_inside ws cs (has_closed end.marks)
  unfolding shortfall
  all-capped all =
      rw (eq-eqb end.weight 0 (closed-weight total ws cs end end-sound all)) (omega (arith, sound-caps total ws cs end end-sound))

  pub shortfall-none : (i : ℕ) → 0 < at ws i → at end.marks i ≡ 0 → shortfall end ≡ 0
  unfolding shortfall
  shortfall-none i some z = rw (ne_eqb end.weight 0 (λ e. omega (arith, open-weight total ws cs end end-sound i z)))

  pub shortfall-all : 0 < shortfall end → (i : ℕ) → 0 < at ws i → 0 < at end.marks i
  shortfall-all up i some =
      ⊎_elim (λ (z : at end.marks i ≡ 0). absurd (omega (arith, shortfall-none i some z))) (λ p. p) (eq-zero-or-pos (at end.marks i))

  pub shortfall-le : shortfall end ≤ total
  shortfall-le = sound-shortfall total ws cs end end-sound
