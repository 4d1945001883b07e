-- The last unit that delivered sets a tier's price (02, request 1), said of the rows that count in an accepted pair of files.
--   set-by               of either tier: the rows that deliver by their own fields set the price that the columns give
--   accepted-prices      both prices of an accepted pair
--   statement-prices     both prices as the bytes of its statement state them
use Prim.Native.Nat.{ℕ, ◌<◌}
use mathlib.Core.Path.{◌≡◌, sym, ◌∙◌}
use mathlib.Core.Logic.{⊎_elim}
use mathlib.Core.List.{List}
use native.Mathlib.Omega.{arith}
use lib.ListN.{length}
use Rattle.columns.specs.Table.{at, table, Below}
use Rattle.columns.proofs.Table.{table_at, table-length}
use Rattle.files.specs.Layout.{head_at, row_count}
use Rattle.files.specs.Form.{terms_of}
use Rattle.files.specs.Order.{verdict_of}
use Rattle.files.specs.Counting.{counting_row}
use Rattle.files.specs.declared.Row.{Row}
use Rattle.files.specs.declared.Terms.{Terms}
use Rattle.files.specs.Verdict.{Accepted, number_of}
use Rattle.files.proofs.Ranges.{Offers, RowRanges}
use Rattle.files.proofs.Laws.{accepted-sound}
use Rattle.duties.specs.Duty.{thermal, normal, width1, width2, meter_energy1, meter_energy2, energy1, energy2}
use Rattle.duties.specs.Duties.{Duties, duties_of}
use Rattle.duties.proofs.Laws.{width1-offers, width2-offers, energy1-whose, energy2-whose, energy1-is, energy2-is}
use Rattle.merit.specs.Band.{Tier, one, two, widths}
use Rattle.merit.specs.Call.{calls}
use Rattle.merit.specs.Price.{price}
use Rattle.merit.proofs.Laws.{calls-le, Delivered, price-reached, price-least, price-zero}
use Rattle.settle.specs.Settlement.{first_turn, bands_of, figures}
use Rattle.settle.specs.Answer.{limit_in, base_in, duties_in, figures_of, answer_of, buffer_after}
use Rattle.demands.specs.Promise.{figures_at, Delivers, SetBy, Prices}
use Rattle.settle.proofs.Accepted.{rows-ranged}
use Rattle.demands.proofs.Demand1.{settled-accepted}
use Rattle.demands.proofs.Demand2.{statement-figures}

-- ---- of either tier: what a row offers there, is paid for, shows by its meter and bid, and what each row is called for

module _ (t : Terms) (n : ℕ) (row : ℕ → Row) (ranged : Below n (λ i. RowRanges t (row i))) (width energy shown : ℕ → ℕ)
    (bid : Row → ℕ) (cs : List ℕ)
    (offers : (i : ℕ) → 0 < width i → (row i).offered ≡ 1)
    (whose : (i : ℕ) → 0 < energy i → ((row i).kind ≡ thermal) × ((row i).status ≡ normal) × (0 < shown i))
    (is : (i : ℕ) → (row i).kind ≡ thermal → (row i).status ≡ normal → energy i ≡ shown i)
    (bids : (r : Row) → Offers t r → 0 < bid r)
    (band : (i : ℕ) → 0 < at cs i → 0 < at (table n width) i) where
  abbrev bs : List ℕ
  bs = table n (λ i. bid (row i))

  abbrev es : List ℕ
  es = table n energy

  abbrev DeliversAt : ℕ → Type 0
  DeliversAt i = Delivers (row i) (at cs i) (shown i)

  bid-at : (i : ℕ) → i < n → at bs i ≡ bid (row i)
  bid-at = table_at 0 n (λ i. bid (row i))

  -- who is called offers
  offering : (i : ℕ) → i < n → 0 < at cs i → Offers t (row i)
  offering i l p =
      (ranged i l).offers (offers i (omega (arith, table_at 0 n width i l, band i p)))

  -- a row delivers by its columns just if it does by its own fields
  by-fields : (i : ℕ) → Delivered bs cs es i → (i < n) × DeliversAt i
  by-fields i x =
      let l : i < n = omega (arith, x.0, table-length n (λ j. bid (row j))) in
      let w = whose i (omega (arith, x.2, table_at 0 n energy i l)) in
      (l, record { normal = w.1; called = x.1; delivered = w.2 })

  by-columns : (i : ℕ) → i < n → DeliversAt i → Delivered bs cs es i
  by-columns i l x =
      let same = is i (offering i l x.called).kind x.normal in (
        omega (arith, table-length n (λ j. bid (row j))),
        x.called,
        omega (arith, table_at 0 n energy i l, same, x.delivered),
      )

  pub set-by : SetBy n DeliversAt (λ i. bid (row i)) (price bs cs es)
  set-by =
      record {
        is_bid = λ some.
            ⊎_elim
            (λ (w : (i : ℕ) × Delivered bs cs es i × (at bs i ≡ price bs cs es)).
            let x = by-fields w.0 w.1 in
            (w.0, x.0, x.1, sym (bid-at w.0 x.0) ∙ w.2))
            (λ (z : price bs cs es ≡ 0). absurd (omega arith)) (price-reached bs cs es);
        highest = λ i l x. omega (arith, price-least bs cs es i (by-columns i l x), bid-at i l);
        nobody = λ z i l x.
            omega (arith, price-zero bs cs es z i (by-columns i l x), bid-at i l, bids (row i) (offering i l x.called));
      }

-- ---- of an accepted pair

module _ (s k : List ℕ) (n : ℕ) (h : verdict_of s k ≡ Accepted n) where
  abbrev d : Duties
  d = duties_in s k

  abbrev first : ℕ
  first = first_turn (head_at s).quarter (row_count s)

  abbrev made : Tier → List ℕ
  made = calls (head_at s).need.0 (bands_of d) first

  called-width : (tier : Tier) (i : ℕ) → 0 < at (made tier) i → 0 < at (widths (bands_of d) tier) i
  called-width tier i p =
      omega (arith, p, calls-le (head_at s).need.0 (bands_of d) first tier i)

  pub accepted-prices : Prices s k (figures_of s k)
  unfolding figures_of figures duties_in duties_of
  accepted-prices =
      let row = counting_row s k in
      let limit = limit_in s k in
      let base = base_in s k in
      let sound = accepted-sound s k n h in
      let of = set-by (terms_of s) (row_count s) row (rows-ranged s k n h) in
      record {
        tier1 =
            of (λ i. width1 (limit i) (row i)) (λ i. energy1 (base i) (row i)) (λ i. meter_energy1 (base i) (row i)) (λ r. r.bid1.0) (made one)
            (λ i. width1-offers (limit i) (row i)) (λ i. energy1-whose (base i) (row i)) (λ i. energy1-is (base i) (row i))
            (λ r o. omega (arith, o.bid1_low, sound.first)) (called-width one);
        tier2 =
            of (λ i. width2 (row i)) (λ i. energy2 (base i) (row i)) (λ i. meter_energy2 (base i) (row i)) (λ r. r.bid2.0) (made two)
            (λ i. width2-offers (row i)) (λ i. energy2-whose (base i) (row i)) (λ i. energy2-is (base i) (row i))
            (λ r o. omega (arith, o.bid2_low, sound.first, sound.rising1, sound.apart)) (called-width two);
      }

-- ---- of the statement's bytes

pub statement-prices : (s k out : List ℕ) → number_of (answer_of s k (length out)) ≡ 0 → Prices s k (figures_at (buffer_after s k out))
statement-prices s k out h =
    rw (statement-figures s k out h) (accepted-prices s k (row_count s) (settled-accepted s k (length out) h))
