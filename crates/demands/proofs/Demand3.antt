-- Demand 3, sentence by sentence, of the figures of any columns of one length; so of every accepted pair of files; and of the
-- figures read back from the bytes of its statement. The sentences are the fields of `Demand3` (specs/Promise.antt).
--   paid_is_kept              What is paid, plus penalties, less what is returned, equals what receivers keep, to the fen.
--     cut_within, returned_within     (Nobody is cut by more than it is due or returned more than it owes: both are plain differences.)
--   within_cap                No payer exceeds its cap.
--   open_share_left           Of the payers with corrected energy, those not capped share what the caps leave ..
--   rate_over, rate_short     .. at one rate for each corrected kWh, rounded by less than a fen, up or down.
--   open_below_cap            At that rate, before rounding, each of them owes less than its cap ..
--   capped_at_cap             .. and each capped one at least its cap.
--   all_capped_covered        If all are capped, their caps together don't exceed the compensation.
--   capped_set                The capped payers have this property ..
--   one_capped_set            .. and only one set of payers has it.
--   cut_only_if_all_capped    Receivers are cut only if all are capped ..
--   cut_only_if_uncovered     .. and the penalties do not cover ..
--   cut_exactly               .. by exactly what caps and penalties leave open.
--     shortfall_all_capped, shortfall_open, cut_is_shortfall_left     The shortfall told is that before penalties; they are taken from it.
--   returned_whole_if_open, returned_whole_if_none_short     With an open payer, or without a shortfall, every penalty is returned whole;
--     returned_is_penalties_left      else what the shortfall leaves of them.
--   rounds_at_most_payers     Rounds in which somebody closes number at most those payers ..
--   rounds_at_most_capped     .. and at most those of them that are capped.
--     rounds_are_closings, somebody_closes    The rounds told are those.
--   demand3, accepted-demand3, statement-demand3     all of it: of figures, of an accepted pair, of a statement's bytes
-- Nothing is asked of the columns' numbers: the sentences hold of any.
use Prim.Native.Nat.{ℕ, ◌+◌, ◌-◌, ◌*◌, ◌≤◌, ◌<◌}
use mathlib.Core.Path.{◌≡◌, refl, ap, ◌∙◌}
use mathlib.Core.Logic.{⊎_elim}
use mathlib.Core.Bool.{Bool, cond}
use mathlib.Core.List.{List}
use native.Mathlib.Nat.{eq-zero-or-pos}
use native.Mathlib.Omega.{arith}
use lib.ListN.{length}
use borrow.Author.Tests.{lt-ltb, eq-eqb, ne_eqb}
use Rattle.columns.specs.Sum.{sum_to, sum_where, max_to}
use Rattle.columns.specs.Table.{at}
use Rattle.columns.proofs.Sum.{sum_same, sum-add}
use Rattle.columns.specs.Sum.{whole}
use Rattle.files.specs.Layout.{head_at, row_count}
use Rattle.files.specs.Order.{verdict_of}
use Rattle.files.specs.Counting.{counting_row}
use Rattle.files.specs.Verdict.{Accepted, number_of}
use Rattle.levy.specs.Rounds.{Standing, payers, final, paid, payments}
use Rattle.levy.specs.Capped.{has_closed, inside, outside, payers_inside, caps_inside, left_by, Capped}
use Rattle.levy.proofs.Step.{final-sound}
use Rattle.levy.proofs.Rate.{capped-owe, open-owe}
use Rattle.levy.proofs.Count.{rounds-count, rounds-capped, round-somebody, rounds-max}
use Rattle.levy.proofs.Payment.{payments-length, payments-at, paid-none, paid-closed, paid-total, payment-le-cap, open-rate-over, open-rate-short, all-capped, shortfall-none, closed-caps}
use Rattle.levy.proofs.Cut.{cut-le, cut-capped, cut-uncovered, cuts-total, returned-le, returned-total, returned-whole, returned-open, balance}
use Rattle.levy.proofs.Unique.{closers-left, closers-beside, final-capped, capped-unique}
use Rattle.duties.specs.Duties.{Duties, Level}
use Rattle.duties.proofs.Laws.{duties-level}
use Rattle.settle.specs.Settlement.{Figures, levied, figures}
use Rattle.settle.specs.Within.{Turn}
use Rattle.settle.specs.Answer.{limit_in, base_in, duties_in, figures_of, answer_of, buffer_after}
use Rattle.demands.specs.Promise.{figures_at, capped, CappedPayer, OpenPayer, AllCapped, capped_caps, left_over, open_energy, kept, Demand3}
use Rattle.settle.proofs.Accepted.{first-inside}
use Rattle.settle.proofs.Sizes.{Long, figures-long}
use Rattle.demands.proofs.Demand1.{settled-accepted}
use Rattle.demands.proofs.Demand2.{statement-figures}

-- ---- payments and cuts after the last round

module _ (total : ℕ) (ws cs : List ℕ) where
  abbrev end : Standing
  end = final total ws cs

  abbrev closers : ℕ → Bool
  closers = has_closed end.marks

  module _ (first : ℕ) where
    abbrev pays : List ℕ
    pays = payments ws cs end first

    pays-at : (i : ℕ) → at pays i ≡ paid ws cs end first i
    pays-at = payments-at total ws cs end (final-sound total ws cs) first

    -- who pays: a capped payer its cap, an open one what it pays, anybody else nothing
    pays-parts : (i : ℕ) → at pays i ≡ cond (inside ws closers i) (at cs i) 0 + cond (outside ws closers i) (at pays i) 0
    pays-parts i =
        ⊎_elim
        (λ (z : at ws i ≡ 0).
        let nothing : at pays i ≡ 0 = pays-at i ∙ paid-none total ws cs end (final-sound total ws cs) first i z in
        rw (nothing, z) refl)
        (λ (some : 0 < at ws i). ⊎_elim
        (λ (z : at end.marks i ≡ 0). rw (lt-ltb 0 (at ws i) some, eq-eqb (at end.marks i) 0 z) (omega arith))
        (λ (up : 0 < at end.marks i).
        rw (lt-ltb 0 (at ws i) some, ne_eqb (at end.marks i) 0 (omega arith)) (omega (arith, pays-at i, paid-closed ws cs end first i up)))
        (eq-zero-or-pos (at end.marks i)))
        (eq-zero-or-pos (at ws i))

    pays-whole : whole pays ≡ caps_inside ws cs closers + sum_where (length ws) (outside ws closers) (at pays)
    unfolding whole caps_inside sum_where
    pays-whole =
        ap (λ (n : ℕ). sum_to n (at pays)) (payments-length ws cs end first)
        ∙ sum_same (length ws) (at pays) (λ i. cond (inside ws closers i) (at cs i) 0 + cond (outside ws closers i) (at pays i) 0) (λ i l. pays-parts i)
        ∙ sum-add (length ws) (λ i. cond (inside ws closers i) (at cs i) 0) (λ i. cond (outside ws closers i) (at pays i) 0)

    open-left : (0 < length ws → first < length ws) → (i : ℕ) → 0 < at ws i → at end.marks i ≡ 0
        → sum_where (length ws) (outside ws closers) (at pays) ≡ left_by total ws cs closers
    unfolding left_by
    open-left turn i some z =
        omega (arith, pays-whole, paid-total total ws cs first turn, shortfall-none total ws cs i some z)

-- ---- the figures of any columns of one length

module _ (need first n : ℕ) (d : Duties) (level : Level n d) (turn : Turn n first) where
  abbrev f : Figures
  f = figures need first d

  abbrev pay : List ℕ
  pay = f.compensations

  abbrev owed : List ℕ
  owed = f.penalties

  abbrev ws : List ℕ
  ws = f.weights

  abbrev cs : List ℕ
  cs = f.caps

  turn-weights : Turn (length ws) first
  unfolding figures
  turn-weights some = omega (arith, turn (omega (arith, level.weights)), level.weights)

  long : Long n f
  long = figures-long need first n d level

  turn-pay : Turn (length pay) first
  turn-pay some = omega (arith, turn (omega (arith, long.compensations)), long.compensations)

  turn_owed : Turn (length owed) first
  turn_owed some = omega (arith, turn (omega (arith, long.penalties)), long.penalties)

  pub total_is : f.total ≡ whole pay
  unfolding figures
  total_is = refl

  pub paid_is_kept : (whole f.paid + whole owed) - whole f.returned ≡ sum_to (length pay) (kept f)
  unfolding figures levied
  paid_is_kept = balance (whole pay) ws cs owed first pay refl turn-pay turn-weights turn_owed

  pub cut_within : (i : ℕ) → at f.cuts i ≤ at pay i
  unfolding figures levied
  cut_within = cut-le (whole pay) ws cs owed first pay refl

  pub returned_within : (i : ℕ) → at f.returned i ≤ at owed i
  unfolding figures levied
  returned_within = returned-le (whole pay) ws cs owed first

  pub within_cap : (i : ℕ) → at f.paid i ≤ at cs i
  unfolding figures levied
  within_cap = payment-le-cap (whole pay) ws cs first

  pub capped_pays_cap : (i : ℕ) → CappedPayer f i → at f.paid i ≡ at cs i
  unfolding figures levied
  capped_pays_cap i p = pays-at (whole pay) ws cs first i ∙ paid-closed ws cs (final (whole pay) ws cs) first i p.1

  pub no_energy_no_pay : (i : ℕ) → at ws i ≡ 0 → at f.paid i ≡ 0
  unfolding figures levied
  no_energy_no_pay i z =
      pays-at (whole pay) ws cs first i ∙ paid-none (whole pay) ws cs (final (whole pay) ws cs) (final-sound (whole pay) ws cs) first i z

  pub open_share_left : (i : ℕ) → OpenPayer f i → sum_where (length ws) (outside ws (capped f)) (at f.paid) ≡ left_over f
  unfolding figures levied
  open_share_left i p = open-left (whole pay) ws cs first turn-weights i p.0 p.1

  pub rate_over : (i : ℕ) → OpenPayer f i → at f.paid i * open_energy f < left_over f * at ws i + open_energy f
  unfolding figures levied
  rate_over i p =
      rw (closers-left (whole pay) ws cs, closers-beside (whole pay) ws cs, pays-at (whole pay) ws cs first i)
      (open-rate-over (whole pay) ws cs first i p.1 p.0)

  pub rate_short : (i : ℕ) → OpenPayer f i → left_over f * at ws i < at f.paid i * open_energy f + open_energy f
  unfolding figures levied
  rate_short i p =
      rw (closers-left (whole pay) ws cs, closers-beside (whole pay) ws cs, pays-at (whole pay) ws cs first i)
      (open-rate-short (whole pay) ws cs first i p.1 p.0)

  pub open_below_cap : (i : ℕ) → OpenPayer f i → left_over f * at ws i < at cs i * open_energy f
  unfolding figures levied
  open_below_cap i p =
      rw (closers-left (whole pay) ws cs, closers-beside (whole pay) ws cs) (open-owe (whole pay) ws cs i p.1 p.0)

  pub capped_at_cap : (i : ℕ) → CappedPayer f i → at cs i * open_energy f ≤ left_over f * at ws i
  unfolding figures levied
  capped_at_cap i p = rw (closers-left (whole pay) ws cs, closers-beside (whole pay) ws cs) (capped-owe (whole pay) ws cs i p.1)

  pub all_capped_covered : AllCapped f → capped_caps f ≤ f.total
  unfolding figures levied
  all_capped_covered all = closed-caps (whole pay) ws cs

  pub capped_set : Capped f.total ws cs (capped f)
  unfolding figures levied
  capped_set = final-capped (whole pay) ws cs

  pub one_capped_set : (p : ℕ → Bool) → Capped f.total ws cs p → (i : ℕ) → 0 < at ws i → p i ≡ capped f i
  unfolding figures levied
  one_capped_set = capped-unique (whole pay) ws cs

  pub shortfall_all_capped : AllCapped f → f.shortfall ≡ f.total - capped_caps f
  unfolding figures levied
  shortfall_all_capped = all-capped (whole pay) ws cs

  pub shortfall_open : (i : ℕ) → OpenPayer f i → f.shortfall ≡ 0
  unfolding figures levied
  shortfall_open i p = shortfall-none (whole pay) ws cs i p.0 p.1

  pub cut_only_if_all_capped : (j : ℕ) → 0 < at f.cuts j → AllCapped f
  unfolding figures levied
  cut_only_if_all_capped = cut-capped (whole pay) ws cs owed first pay

  pub cut_only_if_uncovered : (j : ℕ) → 0 < at f.cuts j → whole owed < f.total - capped_caps f
  cut_only_if_uncovered j up = rw (← shortfall_all_capped (cut_only_if_all_capped j up)) short
    where
      short : whole owed < f.shortfall
      short = unfold figures levied in cut-uncovered (whole pay) ws cs owed first pay j up

  pub cut_is_shortfall_left : whole f.cuts ≡ f.shortfall - whole owed
  unfolding figures levied
  cut_is_shortfall_left = cuts-total (whole pay) ws cs owed first pay refl turn-pay

  pub cut_exactly : AllCapped f → whole f.cuts ≡ f.total - capped_caps f - whole owed
  cut_exactly all = cut_is_shortfall_left ∙ ap (λ (x : ℕ). x - whole owed) (shortfall_all_capped all)

  pub returned_is_penalties_left : whole f.returned ≡ whole owed - f.shortfall
  unfolding figures levied
  returned_is_penalties_left = returned-total (whole pay) ws cs owed first turn_owed

  pub returned_whole_if_open : (i : ℕ) → OpenPayer f i → f.returned ≡ owed
  unfolding figures levied
  returned_whole_if_open i p = returned-open (whole pay) ws cs owed first i p.0 p.1

  pub returned_whole_if_none_short : f.shortfall ≡ 0 → f.returned ≡ owed
  unfolding figures levied
  returned_whole_if_none_short = returned-whole (whole pay) ws cs owed first

  pub rounds_are_closings : f.rounds ≡ max_to (length ws) (at f.closing)
  unfolding figures levied
  rounds_are_closings = rounds-max (whole pay) ws cs

  pub somebody_closes : (r : ℕ) → 0 < r → r ≤ f.rounds → (i : ℕ) × CappedPayer f i × (at f.closing i ≡ r)
  unfolding figures levied
  somebody_closes r up le =
      let it = round-somebody (whole pay) ws cs r up le in (it.0, (it.1, omega (arith, it.2)), it.2)

  pub rounds_at_most_payers : f.rounds ≤ payers ws
  unfolding figures levied
  rounds_at_most_payers = rounds-count (whole pay) ws cs

  pub rounds_at_most_capped : f.rounds ≤ payers_inside ws (capped f)
  unfolding figures levied
  rounds_at_most_capped = rounds-capped (whole pay) ws cs

  pub demand3 : Demand3 (figures need first d)
  demand3 =
      record {
        total_is = total_is;
        paid_is_kept = paid_is_kept;
        cut_within = cut_within;
        returned_within = returned_within;
        within_cap = within_cap;
        capped_pays_cap = capped_pays_cap;
        no_energy_no_pay = no_energy_no_pay;
        open_share_left = open_share_left;
        rate_over = rate_over;
        rate_short = rate_short;
        open_below_cap = open_below_cap;
        capped_at_cap = capped_at_cap;
        all_capped_covered = all_capped_covered;
        capped_set = capped_set;
        one_capped_set = one_capped_set;
        shortfall_all_capped = shortfall_all_capped;
        shortfall_open = shortfall_open;
        cut_only_if_all_capped = cut_only_if_all_capped;
        cut_only_if_uncovered = cut_only_if_uncovered;
        cut_exactly = cut_exactly;
        cut_is_shortfall_left = cut_is_shortfall_left;
        returned_is_penalties_left = returned_is_penalties_left;
        returned_whole_if_open = returned_whole_if_open;
        returned_whole_if_none_short = returned_whole_if_none_short;
        rounds_are_closings = rounds_are_closings;
        somebody_closes = somebody_closes;
        rounds_at_most_payers = rounds_at_most_payers;
        rounds_at_most_capped = rounds_at_most_capped;
      }

-- ---- an accepted pair of files, and the bytes of its statement

pub accepted-demand3 : (s k : List ℕ) (n : ℕ) → verdict_of s k ≡ Accepted n → Demand3 (figures_of s k)
unfolding figures_of duties_in
accepted-demand3 s k n h =
    demand3 (head_at s).need.0 _ (row_count s) (duties_in s k)
    (duties-level (limit_in s k) (base_in s k) (head_at s).tariff.0 (row_count s) (counting_row s k)) (first-inside (head_at s).quarter (row_count s))

pub statement-demand3 : (s k out : List ℕ) → number_of (answer_of s k (length out)) ≡ 0 → Demand3 (figures_at (buffer_after s k out))
statement-demand3 s k out h =
    rw (statement-figures s k out h) (accepted-demand3 s k (row_count s) (settled-accepted s k (length out) h))
