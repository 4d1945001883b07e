-- Penalties (02, request 4), said of the rows that count in an accepted pair of files; what they leave alone; what a larger one does to cuts.
--   owed-is                of one row: what its columns make it owe is what it owes by its status and its meter
--   accepted-penalties, statement-penalties     of an accepted pair, and of the bytes of its statement
--   unseen                 calls, prices, compensations, rounds and payments do not see penalties
--   less-cut               of the figures of any columns: penalties that come to more cut nobody more, but for a fen
--   accepted-less-cut, statement-less-cut       of two accepted pairs, and of the bytes of their statements
use Prim.Native.Nat.{ℕ, ◌≤◌, ◌<◌}
use mathlib.Core.Path.{◌≡◌, refl, sym, ap, ◌∙◌}
use mathlib.Core.Logic.{⊎_elim}
use mathlib.Core.Bool.{Bool, true, false, cond, ◌&&◌}
use mathlib.Core.List.{List}
use native.Mathlib.Nat.{eq-zero-or-pos, mul-le-mul_right}
use native.Mathlib.Omega.{arith}
use lib.Dec.{eqb}
use lib.ListN.{length}
use borrow.Author.Tests.{eqb-false}
use Rattle.columns.specs.Sum.{whole}
use Rattle.columns.specs.Table.{at, table}
use Rattle.columns.proofs.Table.{table_at, table-length}
use Rattle.files.specs.Layout.{head_at, row_count}
use Rattle.files.specs.Form.{terms_of}
use Rattle.files.specs.Order.{verdict_of}
use Rattle.files.specs.Counting.{counting_row}
use Rattle.files.specs.declared.Row.{Row}
use Rattle.files.specs.declared.Terms.{Terms}
use Rattle.files.specs.Verdict.{Accepted, number_of}
use Rattle.files.proofs.Ranges.{RowRanges}
use Rattle.duties.specs.Duty.{thermal, reduced, width1, width2, meter_energy1, meter_energy2, credit1, credit2}
use Rattle.duties.specs.Duties.{Duties, Level, duties_of}
use Rattle.duties.proofs.Laws.{duties-level, width1-offers, width2-offers}
use Rattle.merit.specs.Band.{Tier, one, two, widths}
use Rattle.merit.specs.Call.{calls}
use Rattle.merit.proofs.Laws.{calls-le}
use Rattle.pay.specs.Pay.{penalty}
use Rattle.pay.proofs.Laws.{penalty-none}
use Rattle.share.specs.Share.{share}
use Rattle.share.proofs.Laws.{share-more, shares_at}
use Rattle.levy.specs.Rounds.{to_cut, cuts}
use Rattle.settle.specs.Settlement.{first_turn, bands_of, compensations_of, penalties_of, Figures, levied, figures}
use Rattle.settle.specs.Within.{Turn}
use Rattle.settle.specs.Answer.{limit_in, base_in, duties_in, figures_of, answer_of, buffer_after}
use Rattle.demands.specs.Promise.{figures_at, owed_by, Penalties, credited_with, SameButPenalties, MorePenalty, LessCut}
use Rattle.settle.proofs.Accepted.{first-inside, rows-ranged}
use Rattle.demands.proofs.Demand1.{settled-accepted}
use Rattle.demands.proofs.Demand2.{statement-figures}
use Rattle.demands.proofs.Demand3.{cut_is_shortfall_left}

-- ---- one row

-- a row called for no more than its bands, which are empty unless it is thermal: by whether it is thermal, and of status 2
by-status : (k z : Bool) (c1 c2 m1 m2 w1 w2 p1 p2 : ℕ) → c1 ≤ w1 → c2 ≤ w2 → (k ≡ false → (w1 ≡ 0) × (w2 ≡ 0))
    → penalty c1 c2 (cond (k && z) m1 w1) (cond (k && z) m2 w2) p1 p2 ≡ cond z (penalty c1 c2 m1 m2 p1 p2) 0
by-status true true c1 c2 m1 m2 w1 w2 p1 p2 h1 h2 empty = refl
by-status true false c1 c2 m1 m2 w1 w2 p1 p2 h1 h2 empty = penalty-none c1 c2 w1 w2 p1 p2 h1 h2
by-status false false c1 c2 m1 m2 w1 w2 p1 p2 h1 h2 empty = penalty-none c1 c2 w1 w2 p1 p2 h1 h2
by-status false true c1 c2 m1 m2 w1 w2 p1 p2 h1 h2 empty =
    let none = empty refl in
    penalty-none c1 c2 w1 w2 p1 p2 h1 h2
    ∙ sym (penalty-none c1 c2 m1 m2 p1 p2 (omega (arith, none.0)) (omega (arith, none.1)))

module _ (t : Terms) (r : Row) (ranged : RowRanges t r) where
  -- only a thermal row offers
  no-band : (w : ℕ) → (0 < w → r.offered ≡ 1) → eqb r.kind thermal ≡ false → w ≡ 0
  no-band w offers other =
      ⊎_elim (λ (z : w ≡ 0). z)
      (λ (some : 0 < w). absurd (eqb-false r.kind thermal other (ranged.offers (offers some)).kind)) (eq-zero-or-pos w)

  pub owed-is : (limit base c1 c2 p1 p2 : ℕ) → c1 ≤ width1 limit r → c2 ≤ width2 r
      → penalty c1 c2 (credit1 limit base r) (credit2 base r) p1 p2 ≡ owed_by base r c1 c2 p1 p2
  unfolding credit1 credit2
  owed-is limit base c1 c2 p1 p2 h1 h2 =
      by-status (eqb r.kind thermal) (eqb r.status reduced) c1 c2 (meter_energy1 base r) (meter_energy2 base r) (width1 limit r) (width2 r)
      p1 p2 h1 h2
      (λ other. (no-band (width1 limit r) (width1-offers limit r) other, no-band (width2 r) (width2-offers r) other))

-- ---- an accepted pair, and the bytes of its statement

module _ (s k : List ℕ) (n : ℕ) (h : verdict_of s k ≡ Accepted n) where
  abbrev d : Duties
  d = duties_in s k

  abbrev made : Tier → List ℕ
  made = calls (head_at s).need.0 (bands_of d) (first_turn (head_at s).quarter (row_count s))

  called-within : (tier : Tier) (i : ℕ) → at (made tier) i ≤ at (widths (bands_of d) tier) i
  called-within = calls-le (head_at s).need.0 (bands_of d) (first_turn (head_at s).quarter (row_count s))

  pub accepted-penalties : Penalties s k (figures_of s k)
  unfolding figures_of figures penalties_of duties_in duties_of
  accepted-penalties i l =
      let row = counting_row s k in
      let w1 = table_at 0 (row_count s) (λ j. width1 (limit_in s k j) (row j)) i l in
      let w2 = table_at 0 (row_count s) (λ j. width2 (row j)) i l in
      let x1 = table_at 0 (row_count s) (λ j. credit1 (limit_in s k j) (base_in s k j) (row j)) i l in
      let x2 = table_at 0 (row_count s) (λ j. credit2 (base_in s k j) (row j)) i l in
      let inside : i < length (table (row_count s) (λ j. width1 (limit_in s k j) (row j))) =
      omega (arith, table-length (row_count s) (λ j. width1 (limit_in s k j) (row j))) in
      table_at 0 (length d.widths1) _ i inside
      ∙ (λ j. penalty (at (made one) i) (at (made two) i) (x1 j) (x2 j) (figures_of s k).price1 (figures_of s k).price2)
      ∙ owed-is (terms_of s) (row i) (rows-ranged s k n h i l) (limit_in s k i) (base_in s k i) (at (made one) i) (at (made two) i) (figures_of s k).price1 (figures_of s k).price2
      (omega (arith, called-within one i, w1)) (omega (arith, called-within two i, w2))

pub statement-penalties : (s k out : List ℕ) → number_of (answer_of s k (length out)) ≡ 0 → Penalties s k (figures_at (buffer_after s k out))
statement-penalties s k out h =
    rw (statement-figures s k out h) (accepted-penalties s k (row_count s) (settled-accepted s k (length out) h))

-- ---- other penalties

pub unseen : (need first : ℕ) (d : Duties) (credits1 credits2 : List ℕ)
    → SameButPenalties (figures need first d) (figures need first (credited_with credits1 credits2 d))
unfolding figures compensations_of
unseen need first d credits1 credits2 =
    record {
      price1 = refl;
      price2 = refl;
      total = refl;
      shortfall = refl;
      rounds = refl;
      uncovered = refl;
      visits = refl;
      called1 = refl;
      called2 = refl;
      compensations = refl;
      weights = refl;
      caps = refl;
      paid = refl;
      closing = refl;
    }

-- ---- a larger penalty

-- a cut is a share of what penalties leave of the shortfall
cut_at : (need first : ℕ) (d : Duties) (i : ℕ)
    → at (figures need first d).cuts i
    ≡ share (to_cut (whole (figures need first d).penalties) (figures need first d).shortfall) (figures need first d).compensations first i
unfolding figures levied cuts
cut_at need first d i = shares_at _ _ first i

-- of two settlements, whatever their needs, columns and turns
module _ (need first n : ℕ) (d : Duties) (level : Level n d) (turn : Turn n first) (need' first' n' : ℕ) (d' : Duties) (level' : Level n' d')
    (turn' : Turn n' first') where
  abbrev f : Figures
  f = figures need first d

  abbrev g : Figures
  g = figures need' first' d'

  pub less-cut : MorePenalty f g → LessCut f g
  less-cut more =
      let together : whole g.cuts ≤ whole f.cuts =
      omega (
        arith,
        cut_is_shortfall_left need first n d level turn,
        cut_is_shortfall_left need' first' n' d' level' turn',
        more.shortfall,
        more.penalties,
      ) in
      let same : (i : ℕ) → at g.compensations i ≡ at f.compensations i = λ i. ap (λ (xs : List ℕ). at xs i) (sym more.compensations) in
      let less : to_cut (whole g.penalties) g.shortfall ≤ to_cut (whole f.penalties) f.shortfall =
      omega (arith, more.shortfall, more.penalties) in
      record {
        together = together;
        before_fen = λ i. rw (same i) (mul-le-mul_right (at f.compensations i) together);
        in_fen = λ i. rw (cut_at need first d i, cut_at need' first' d' i, ← more.compensations)
            (share-more (to_cut (whole g.penalties) g.shortfall) (to_cut (whole f.penalties) f.shortfall) f.compensations first' first i less);
      }

-- of two accepted pairs
pub accepted-less-cut : (s k t j : List ℕ) → MorePenalty (figures_of s k) (figures_of t j) → LessCut (figures_of s k) (figures_of t j)
unfolding figures_of duties_in
accepted-less-cut s k t j =
    less-cut (head_at s).need.0 _ (row_count s) (duties_in s k)
    (duties-level (limit_in s k) (base_in s k) (head_at s).tariff.0 (row_count s) (counting_row s k)) (first-inside (head_at s).quarter (row_count s))
    (head_at t).need.0 _ (row_count t) (duties_in t j)
    (duties-level (limit_in t j) (base_in t j) (head_at t).tariff.0 (row_count t) (counting_row t j)) (first-inside (head_at t).quarter (row_count t))

-- and of the bytes of their statements
pub statement-less-cut : (s k out t j room : List ℕ) → number_of (answer_of s k (length out)) ≡ 0 → number_of (answer_of t j (length room)) ≡ 0
    → MorePenalty (figures_at (buffer_after s k out)) (figures_at (buffer_after t j room))
    → LessCut (figures_at (buffer_after s k out)) (figures_at (buffer_after t j room))
statement-less-cut s k out t j room settled settled' =
    rw (statement-figures s k out settled, statement-figures t j room settled') (accepted-less-cut s k t j)
