-- Laws of duties, for whoever works on their columns.
--   of one row:
--     baseline-most                            how large its baseline gets
--     width1-most, width2-most, energies-most, credit1-most, credit2-most, weight-most, cap-most     how large its figures get
--     width1-offers, width2-offers             a row with a band offers
--     energy1-whose, energy2-whose             a row with paid energy is thermal, of status 0, and its meter shows energy
--     energy1-is, energy2-is                   a thermal row of status 0 is paid for what its meter shows
--     bids2-above                              the bid of a row with a band in tier 2 is at least that tier's lowest
--     not-payer                                a row that does not pay has weight 0 and cap 0
--     at_base                                  a row at its base or above delivered nothing
--     in-range                                 a row in its ranges is as small as the code asks
--   of the columns of n rows:
--     duties-level                             a number for each row
--     duties-sized                             the same bounds
--     bids-apart                               no tier 1 bid is above a tier 2 bid where both bands have a width
use Prim.Native.Nat.{ℕ, ◌+◌, ◌*◌, ◌≤◌, ◌<◌, zero-le}
use mathlib.Core.Path.{◌≡◌, refl}
use mathlib.Core.Logic.{◌⊎◌, inl, inr, ⊎_elim}
use mathlib.Core.Bool.{Bool, true, false, cond}
use native.Mathlib.Nat.{mul-le-mul}
use native.Mathlib.Omega.{arith}
use lib.Dec.{eqb}
use borrow.Author.Tests.{eqb-true, eq-eqb}
use Rattle.columns.specs.Table.{at, table, Below}
use Rattle.columns.proofs.First.{left-true, right-true}
use Rattle.columns.proofs.Sum.{lt-or-le}
use Rattle.columns.proofs.Table.{table-length, table_at, table-past, table-most}
use Rattle.files.specs.declared.Row.{Row}
use Rattle.files.specs.declared.Terms.{Terms}
use Rattle.files.specs.Terms.{baseline, Sound}
use Rattle.files.proofs.Ranges.{RowRanges}
use Rattle.duties.specs.Duty.{thermal, normal, width1, width2, meter_energy1, meter_energy2, receives, energy1, energy2, liable, credit1, credit2, payer, weight, cap}
use Rattle.duties.specs.Duties.{Duties, Level, duties_of}
use Rattle.duties.specs.Ranged.{Ranged}

-- figures chosen by a test, at most what each of them is
or-none : (b : Bool) (x m : ℕ) → x ≤ m → cond b x 0 ≤ m
or-none true x m h = h
or-none false x m h = zero-le

both-or-none : (b : Bool) (x y m : ℕ) → x + y ≤ m → cond b x 0 + cond b y 0 ≤ m
both-or-none true x y m h = h
both-or-none false x y m h = zero-le

either : (b : Bool) (x y m : ℕ) → x ≤ m → y ≤ m → cond b x y ≤ m
either true x y m h k = h
either false x y m h k = k

chosen : (b : Bool) (x : ℕ) → 0 < cond b x 0 → b ≡ true
chosen true x p = refl
chosen false x p = absurd (omega arith)

pub width1-offers : (limit : ℕ) (r : Row) → 0 < width1 limit r → r.offered ≡ 1
unfolding width1
width1-offers limit r p = eqb-true r.offered 1 (chosen (eqb r.offered 1) _ p)

pub width2-offers : (r : Row) → 0 < width2 r → r.offered ≡ 1
unfolding width2
width2-offers r p = eqb-true r.offered 1 (chosen (eqb r.offered 1) _ p)

-- who is paid for some energy: a thermal row of status 0
paid-whose : (r : Row) (x : ℕ) → 0 < cond (receives r) x 0 → (r.kind ≡ thermal) × (r.status ≡ normal) × (0 < x)
paid-whose r x p =
    let yes = chosen (receives r) x p in
    let there : cond (receives r) x 0 ≡ x = rw yes refl in (
      eqb-true r.kind thermal (left-true (eqb r.kind thermal) (eqb r.status normal) yes),
      eqb-true r.status normal (right-true (eqb r.kind thermal) (eqb r.status normal) yes),
      omega (arith, p, there),
    )

paid-is : (r : Row) (x : ℕ) → r.kind ≡ thermal → r.status ≡ normal → cond (receives r) x 0 ≡ x
paid-is r x k z = rw (eq-eqb r.kind thermal k, eq-eqb r.status normal z) refl

module _ (base : ℕ) (r : Row) where
  pub energy1-whose : 0 < energy1 base r → (r.kind ≡ thermal) × (r.status ≡ normal) × (0 < meter_energy1 base r)
  unfolding energy1
  energy1-whose p = paid-whose r (meter_energy1 base r) p

  pub energy2-whose : 0 < energy2 base r → (r.kind ≡ thermal) × (r.status ≡ normal) × (0 < meter_energy2 base r)
  unfolding energy2
  energy2-whose p = paid-whose r (meter_energy2 base r) p

  pub energy1-is : r.kind ≡ thermal → r.status ≡ normal → energy1 base r ≡ meter_energy1 base r
  unfolding energy1
  energy1-is k z = paid-is r (meter_energy1 base r) k z

  pub energy2-is : r.kind ≡ thermal → r.status ≡ normal → energy2 base r ≡ meter_energy2 base r
  unfolding energy2
  energy2-is k z = paid-is r (meter_energy2 base r) k z

pub in-range : (t : Terms) (r : Row) → RowRanges t r → Ranged r
in-range t r h = record { metered = omega (arith, h.capacity_high, h.metered) }

pub not-payer : (base tariff : ℕ) (r : Row) → payer base r ≡ false → (weight base r ≡ 0) × (cap base tariff r ≡ 0)
unfolding weight cap
not-payer base tariff r e = (rw e, rw e)

pub at_base : (base : ℕ) (r : Row) → base ≤ r.metered.0 → (energy1 base r ≡ 0) × (energy2 base r ≡ 0)
unfolding energy1 energy2
at_base base r h = (go (receives r) (omega arith), go (receives r) (omega arith))
  where
    go : (b : Bool) {x : ℕ} → x ≡ 0 → cond b x 0 ≡ 0
    go true e = e
    go false e = refl

pub baseline-most : (t : Terms) → Sound t → (r : Row) → RowRanges t r → baseline t r.capacity ≤ 250000
baseline-most t sound r h = omega (arith, mul-le-mul h.capacity_high sound.below)

module _ (t : Terms) (r : Row) (h : RowRanges t r) where
  pub width1-most : (limit : ℕ) → limit ≤ 250000 → width1 limit r ≤ 250000
  unfolding width1
  width1-most limit low = or-none (eqb r.offered 1) _ 250000 (omega arith)

  pub width2-most : width2 r ≤ 250000
  unfolding width2
  width2-most = or-none (eqb r.offered 1) _ 250000 (omega (arith, h.capacity_high))

  pub energies-most : (base : ℕ) → base ≤ 250000 → energy1 base r + energy2 base r ≤ 250000
  unfolding energy1 energy2
  energies-most base low = both-or-none (receives r) _ _ 250000 (omega arith)

  pub credit1-most : (limit base : ℕ) → limit ≤ 250000 → base ≤ 250000 → credit1 limit base r ≤ 250000
  unfolding credit1
  credit1-most limit base wide low = either (liable r) _ _ 250000 (omega arith) (width1-most limit wide)

  pub credit2-most : (base : ℕ) → base ≤ 250000 → credit2 base r ≤ 250000
  unfolding credit2
  credit2-most base low = either (liable r) _ _ 250000 (omega arith) width2-most

  pub weight-most : (base : ℕ) → weight base r ≤ 1000000
  unfolding weight
  weight-most base =
      or-none (payer base r) _ 1000000
      (either (eqb r.kind 1) _ _ 1000000 (omega (arith, h.capacity_high, h.metered))
      (omega (arith, h.capacity_high, h.metered)))

  pub cap-most : (base tariff : ℕ) → tariff ≤ 10000 → cap base tariff r ≤ 27500000
  unfolding cap
  cap-most base tariff low =
      let metered : r.metered.0 ≤ 550000 = omega (arith, h.capacity_high, h.metered) in
      let product : r.metered.0 * tariff ≤ 550000 * 10000 = mul-le-mul metered low in
      or-none (payer base r) _ 27500000 (either (eqb r.kind 1) _ _ 27500000 (omega arith) (omega arith))

  -- who has a band in tier 2 bids within its limits
  pub bids2-above : 0 < width2 r → t.lowest2.0 ≤ r.bid2.0
  bids2-above p = (h.offers (width2-offers r p)).bid2_low

-- how large the columns' numbers get
pub record Sized (d : Duties) : Type 0 where
  pub widths1 : (i : ℕ) → at d.widths1 i ≤ 250000
  pub widths2 : (i : ℕ) → at d.widths2 i ≤ 250000
  pub energies : (i : ℕ) → at d.energies1 i + at d.energies2 i ≤ 250000
  pub credits1 : (i : ℕ) → at d.credits1 i ≤ 250000
  pub credits2 : (i : ℕ) → at d.credits2 i ≤ 250000
  pub weights : (i : ℕ) → at d.weights i ≤ 1000000
  pub caps : (i : ℕ) → at d.caps i ≤ 27500000
  pub bids1 : (i : ℕ) → at d.bids1 i ≤ 1000
  pub bids2 : (i : ℕ) → at d.bids2 i ≤ 1000

-- a position with a number above 0 is one of the table's
inside : (n : ℕ) (f : ℕ → ℕ) (i : ℕ) → 0 < at (table n f) i → i < n
inside n f i p = ⊎_elim (λ (l : i < n). l) (λ (l : n ≤ i). absurd (omega (arith, table-past 0 n f i l))) (lt-or-le i n)

module _ (limit base : ℕ → ℕ) (tariff n : ℕ) (row : ℕ → Row) where
  pub duties-level : Level n (duties_of limit base tariff n row)
  unfolding duties_of
  duties-level =
      record {
        widths1 = table-length n _;
        widths2 = table-length n _;
        energies1 = table-length n _;
        energies2 = table-length n _;
        weights = table-length n _;
        caps = table-length n _;
        bids1 = table-length n _;
        bids2 = table-length n _;
        credits1 = table-length n _;
        credits2 = table-length n _;
      }

  module _ (t : Terms) (sound : Sound t) (low : tariff ≤ 10000) (rows : Below n (λ i. RowRanges t (row i)))
      (limits : Below n (λ i. limit i ≤ 250000)) (bases : Below n (λ i. base i ≤ 250000)) where
    pub duties-sized : Sized (duties_of limit base tariff n row)
    unfolding duties_of
    duties-sized =
        record {
          widths1 = table-most n 250000 (λ i. width1 (limit i) (row i)) (λ i l. width1-most t (row i) (rows i l) (limit i) (limits i l));
          widths2 = table-most n 250000 (λ i. width2 (row i)) (λ i l. width2-most t (row i) (rows i l));
          energies = λ i. both i (lt-or-le i n);
          credits1 =
              table-most n 250000 (λ i. credit1 (limit i) (base i) (row i))
              (λ i l. credit1-most t (row i) (rows i l) (limit i) (base i) (limits i l) (bases i l));
          credits2 =
              table-most n 250000 (λ i. credit2 (base i) (row i)) (λ i l. credit2-most t (row i) (rows i l) (base i) (bases i l));
          weights = table-most n 1000000 (λ i. weight (base i) (row i)) (λ i l. weight-most t (row i) (rows i l) (base i));
          caps = table-most n 27500000 (λ i. cap (base i) tariff (row i)) (λ i l. cap-most t (row i) (rows i l) (base i) tariff low);
          bids1 =
              table-most n 1000 (λ i. (row i).bid1.0)
              (λ i l. omega (arith, (rows i l).bid1, sound.apart, sound.rising2, sound.last));
          bids2 = table-most n 1000 (λ i. (row i).bid2.0) (λ i l. omega (arith, (rows i l).bid2, sound.last));
        }
      where
        one : ℕ → ℕ
        one k = energy1 (base k) (row k)

        two : ℕ → ℕ
        two k = energy2 (base k) (row k)

        both : (i : ℕ) → (i < n) ⊎ (n ≤ i) → at (table n one) i + at (table n two) i ≤ 250000
        both i (inl l) =
            omega (arith, table_at 0 n one i l, table_at 0 n two i l, energies-most t (row i) (rows i l) (base i) (bases i l))
        both i (inr l) = omega (arith, table-past 0 n one i l, table-past 0 n two i l)

    pub bids-apart : (i j : ℕ) → 0 < at (duties_of limit base tariff n row).widths1 i → 0 < at (duties_of limit base tariff n row).widths2 j
        → at (duties_of limit base tariff n row).bids1 i ≤ at (duties_of limit base tariff n row).bids2 j
    unfolding duties_of
    bids-apart i j p q =
        let l = inside n (λ k. width1 (limit k) (row k)) i p in
        let m = inside n (λ k. width2 (row k)) j q in
        let wide : 0 < width2 (row j) = omega (arith, table_at 0 n (λ k. width2 (row k)) j m, q) in
        omega (
          arith,
          table_at 0 n (λ k. (row k).bid1.0) i l,
          table_at 0 n (λ k. (row k).bid2.0) j m,
          (rows i l).bid1,
          bids2-above t (row j) (rows j m) wide,
          sound.apart,
        )
