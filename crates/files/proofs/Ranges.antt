-- What the ranges of an accepted head and of an accepted row say, as plain facts.
--   head-ranges       a head in its ranges
--   correction-few    a correction head in its ranges has at most 256 rows
--   row-ranges        a row in its ranges, under any terms
--   sound-of          terms in their ranges are sound; sound-01: so are those of document 01
use mathlib.Core.Path.{◌≡◌, refl}
use Prim.Native.Nat.{ℕ, ◌*◌, ◌≤◌, ◌<◌}
use mathlib.Core.Bool.{Bool, true, false}
use native.Mathlib.Omega.{arith}
use lib.Dec.{leb, lit<}
use lib.ListN.{get_or}
use borrow.Author.Tests.{leb-true, ltb-true, eqb-true}
use Rattle.columns.specs.Test.{within}
use Rattle.columns.proofs.First.{each, left-true, right-true}
use Rattle.files.specs.Terms.{terms01, baseline, Sound}
use Rattle.files.specs.Range.{head_tests, head_ok, terms_tests, terms_ok, correction_tests, correction_head_ok, status_ok, idle_tests}
use Rattle.files.specs.Range.{not_offering, offer_tests, offering, row_tests, row_ok}
use Rattle.files.specs.declared.Head.{Head}
use Rattle.files.specs.declared.CorrectionHead.{CorrectionHead}
use Rattle.files.specs.declared.Row.{Row}
use Rattle.files.specs.declared.Terms.{Terms}

-- the ends of a range that a number is in
within_low : (lo hi x : ℕ) → within lo hi x ≡ true → lo ≤ x
within_low lo hi x e = leb-true lo x (left-true (leb lo x) (leb x hi) e)

within-high : (lo hi x : ℕ) → within lo hi x ≡ true → x ≤ hi
within-high lo hi x e = leb-true x hi (right-true (leb lo x) (leb x hi) e)

pub record HeadRanges (h : Head) : Type 0 where
  pub day : h.day ≤ 36524
  pub quarter : h.quarter ≤ 95
  pub tariff_low : 1 ≤ h.tariff.0
  pub tariff_high : h.tariff.0 ≤ 10000
  pub need : h.need.0 ≤ 64000000
  pub rows : h.rows ≤ 256

pub head-ranges : (h : Head) → head_ok h ≡ true → HeadRanges h
unfolding head_ok head_tests
head-ranges h e =
    let at = each (head_tests h) e in
    record {
      day = leb-true h.day 36524 (at 0 (lit< tt));
      quarter = leb-true h.quarter 95 (at 1 (lit< tt));
      tariff_low = within_low 1 10000 h.tariff.0 (at 2 (lit< tt));
      tariff_high = within-high 1 10000 h.tariff.0 (at 2 (lit< tt));
      need = leb-true h.need.0 64000000 (at 3 (lit< tt));
      rows = leb-true h.rows 256 (at 4 (lit< tt));
    }

pub correction-few : (h : CorrectionHead) → correction_head_ok h ≡ true → h.rows ≤ 256
unfolding correction_head_ok correction_tests
correction-few h e = within-high 1 256 h.rows (each (correction_tests h) e 2 (lit< tt))

-- what a row states of its offer: nothing, or a thermal unit's minimum and bids
pub record Idle (r : Row) : Type 0 where
  pub offered : r.offered ≡ 0
  pub minimum : r.minimum.0 ≡ 0
  pub bid1 : r.bid1.0 ≡ 0
  pub bid2 : r.bid2.0 ≡ 0

pub record Offers (t : Terms) (r : Row) : Type 0 where
  pub offered : r.offered ≡ 1
  pub kind : r.kind ≡ 1
  pub minimum : r.minimum.0 ≤ baseline t r.capacity
  pub bid1_low : t.lowest1.0 ≤ r.bid1.0
  pub bid1_high : r.bid1.0 ≤ t.highest1.0
  pub bid2_low : t.lowest2.0 ≤ r.bid2.0
  pub bid2_high : r.bid2.0 ≤ t.highest2.0

pub record RowRanges (t : Terms) (r : Row) : Type 0 where
  pub id : 1 ≤ r.id
  pub kind_low : 1 ≤ r.kind
  pub kind_high : r.kind ≤ 3
  pub capacity_low : 1 ≤ r.capacity
  pub capacity_high : r.capacity ≤ 2000
  pub metered : r.metered.0 ≤ r.capacity * 275
  pub status : r.status ≤ 3
  pub offered : r.offered ≤ 1
  pub minimum : r.minimum.0 ≤ baseline t r.capacity
  pub bid1 : r.bid1.0 ≤ t.highest1.0
  pub bid2 : r.bid2.0 ≤ t.highest2.0
  pub idle : r.offered ≡ 0 → Idle r
  pub offers : r.offered ≡ 1 → Offers t r

idle-of : (r : Row) → not_offering r ≡ true → Idle r
unfolding not_offering idle_tests
idle-of r e =
    let at = each (idle_tests r) e in
    record {
      offered = eqb-true r.offered 0 (at 0 (lit< tt));
      minimum = eqb-true r.minimum.0 0 (at 1 (lit< tt));
      bid1 = eqb-true r.bid1.0 0 (at 2 (lit< tt));
      bid2 = eqb-true r.bid2.0 0 (at 3 (lit< tt));
    }

offers-of : (t : Terms) (r : Row) → offering t r ≡ true → Offers t r
unfolding offering offer_tests
offers-of t r e =
    let at = each (offer_tests t r) e in
    record {
      offered = eqb-true r.offered 1 (at 0 (lit< tt));
      kind = eqb-true r.kind 1 (at 1 (lit< tt));
      minimum = leb-true r.minimum.0 (baseline t r.capacity) (at 2 (lit< tt));
      bid1_low = within_low t.lowest1.0 t.highest1.0 r.bid1.0 (at 3 (lit< tt));
      bid1_high = within-high t.lowest1.0 t.highest1.0 r.bid1.0 (at 3 (lit< tt));
      bid2_low = within_low t.lowest2.0 t.highest2.0 r.bid2.0 (at 4 (lit< tt));
      bid2_high = within-high t.lowest2.0 t.highest2.0 r.bid2.0 (at 4 (lit< tt));
    }

-- the part of a row's ranges that speaks of its offer
record Offer (t : Terms) (r : Row) : Type 0 where
  offered : r.offered ≤ 1
  minimum : r.minimum.0 ≤ baseline t r.capacity
  bid1 : r.bid1.0 ≤ t.highest1.0
  bid2 : r.bid2.0 ≤ t.highest2.0
  idle : r.offered ≡ 0 → Idle r
  offers : r.offered ≡ 1 → Offers t r

pub row-ranges : (t : Terms) (r : Row) → row_ok t r ≡ true → RowRanges t r
unfolding row_ok row_tests status_ok
row-ranges t r e =
    let o = offer (not_offering r) refl in
    record {
      id = leb-true 1 r.id (at 0 (lit< tt));
      kind_low = within_low 1 3 r.kind (at 1 (lit< tt));
      kind_high = within-high 1 3 r.kind (at 1 (lit< tt));
      capacity_low = within_low 1 2000 r.capacity (at 2 (lit< tt));
      capacity_high = within-high 1 2000 r.capacity (at 2 (lit< tt));
      metered = leb-true r.metered.0 (r.capacity * 275) (at 3 (lit< tt));
      status = leb-true r.status 3 (left-true (leb r.status 3) _ (at 4 (lit< tt)));
      offered = o.offered;
      minimum = o.minimum;
      bid1 = o.bid1;
      bid2 = o.bid2;
      idle = o.idle;
      offers = o.offers;
    }
  where
    at : (i : ℕ) → i < 6 → get_or (row_tests t r) i true ≡ true
    at = each (row_tests t r) e

    offer : (b : Bool) → not_offering r ≡ b → Offer t r
    offer true q =
        let z = idle-of r q in
        record {
          offered = omega (arith, z.offered);
          minimum = omega (arith, z.minimum);
          bid1 = omega (arith, z.bid1);
          bid2 = omega (arith, z.bid2);
          idle = λ p. z;
          offers = λ p. absurd (omega (arith, z.offered));
        }
    offer false q =
        let f = offers-of t r (rw q at (at 5 (lit< tt))) in
        record {
          offered = omega (arith, f.offered);
          minimum = f.minimum;
          bid1 = f.bid1_high;
          bid2 = f.bid2_high;
          idle = λ p. absurd (omega (arith, f.offered));
          offers = λ p. f;
        }

-- terms that pass their tests are sound
pub sound-of : (t : Terms) → terms_ok t ≡ true → Sound t
unfolding terms_ok terms_tests
sound-of t e =
    let at = each (terms_tests t) e in
    record {
      above = within_low 41 50 t.percent (at 0 (lit< tt));
      below = within-high 41 50 t.percent (at 0 (lit< tt));
      first = leb-true 1 t.lowest1.0 (at 1 (lit< tt));
      rising1 = ltb-true t.lowest1.0 t.highest1.0 (at 2 (lit< tt));
      apart = leb-true t.highest1.0 t.lowest2.0 (at 3 (lit< tt));
      rising2 = ltb-true t.lowest2.0 t.highest2.0 (at 4 (lit< tt));
      last = leb-true t.highest2.0 1000 (at 5 (lit< tt));
    }

pub sound-01 : Sound terms01
unfolding terms_ok terms_tests
sound-01 = sound-of terms01 refl
