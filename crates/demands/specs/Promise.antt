-- What the promises of the engine speak of besides its definitions: the figures that a statement's bytes hold, both forms of file, how prices and penalties
-- follow from the rows, whose turn it is, how much work the rounds were, and demand 3 said of any figures.
use Rattle.std.specs.Prelude.{ℕ, ◌+◌, ◌-◌, ◌*◌, ◌/◌, ◌≤◌, ◌<◌, ◌≡◌, Bool, true, false, cond, List, ◌∷◌, ◌++◌, eqb, length, take, drop}
use Rattle.columns.specs.Sum.{sum_to, sum_where, max_to}
use Rattle.columns.specs.Table.{at, table}
use Rattle.columns.specs.Sum.{whole}
use Rattle.files.specs.Layout.{head_size, head_at, row_count}
use Rattle.files.specs.Terms.{terms01}
use Rattle.files.specs.Form.{letter_g, terms_bytes, terms_of}
use Rattle.files.specs.Counting.{counting_row}
use Rattle.files.specs.declared.Row.{Row}
use Rattle.duties.specs.Average.{is_thermal, windless}
use Rattle.duties.specs.Duty.{normal, reduced, meter_energy1, meter_energy2, payer, weight}
use Rattle.duties.specs.Duties.{Duties}
use Rattle.pay.specs.Pay.{penalty}
use Rattle.share.specs.Share.{turn, SameOrOneMore}
use Rattle.levy.specs.Rounds.{payers, visits_told}
use Rattle.levy.specs.Capped.{has_closed, outside, payers_inside, caps_inside, left_by, weights_beside, Capped}
use Rattle.records.specs.Record.{letter_p, records_bytes}
use Rattle.records.specs.Sheet.{column_of}
use Rattle.statement.specs.Statement.{letter_l, line_widths, head_in, body_in}
use Rattle.statement.specs.Line as line
use Rattle.settle.specs.Settlement.{first_turn, Figures, figures}
use Rattle.settle.specs.Answer.{limit_in, base_in, duties_in, line_in}

-- every number of the list is a byte, as it is in every file
abbrev pub Bytes : List ℕ → Type 0
Bytes s = (i : ℕ) → at s i < 256

-- the figures that a statement states, read from its bytes by its mark
unfoldable pub figures_at : List ℕ → Figures
figures_at b =
    let h = head_in b in
    let n = h.rows in
    let c = body_in b in
    record {
      price1 = h.price1.0;
      price2 = h.price2.0;
      total = h.total.0;
      shortfall = h.shortfall.0;
      rounds = h.rounds;
      uncovered = h.uncovered.0;
      visits = h.visits;
      called1 = column_of line.called1 n c;
      called2 = column_of line.called2 n c;
      compensations = column_of line.compensation n c;
      cuts = column_of line.cut n c;
      weights = column_of line.weight n c;
      caps = column_of line.cap n c;
      paid = column_of line.paid n c;
      closing = column_of line.closing n c;
      penalties = column_of line.penalty n c;
      returned = column_of line.returned n c;
    }

-- ---- both forms of file (02, request 6)

-- the PG file that states document 01's terms, and else says what a PH file says
unfoldable pub restated : List ℕ → List ℕ
restated s = (letter_p ∷ letter_g ∷ take (head_size - 2) (drop 2 s)) ++ (terms_bytes terms01 ++ drop head_size s)

-- the lines of a pair's statement, in bytes
unfoldable pub lines_of : List ℕ → List ℕ → List ℕ
lines_of s k = records_bytes letter_l line_widths (table (row_count s) (line_in s k))

-- ---- the thermal average (02, request 9), said of the rows that count

-- the condition: something is needed, no wind or solar meter is above 0, no thermal row above its limit, and one is thermal
abbrev pub windless_in : List ℕ → List ℕ → Bool
windless_in s k = windless (terms_of s) (head_at s).need.0 (row_count s) (counting_row s k)

-- row i is thermal and stands so to its base
abbrev pub ThermalAt : List ℕ → List ℕ → (ℕ → ℕ → Type 0) → ℕ → Type 0
ThermalAt s k stands i = (i < row_count s) × (is_thermal (counting_row s k i) ≡ true) × stands (base_in s k i) (counting_row s k i).metered.0

-- what an average that rules comes to
pub record Averaged (s k : List ℕ) : Type 0 where
  -- no base is above its limit
  pub under : (i : ℕ) → i < row_count s → base_in s k i ≤ limit_in s k i
  -- some thermal row is at its base or above, so that somebody may pay
  pub reached : (i : ℕ) × ThermalAt s k (λ base e. base ≤ e) i
  -- and if one is below, one is above
  pub above : (i : ℕ) → ThermalAt s k (λ base e. e < base) i → (j : ℕ) × ThermalAt s k (λ base e. base < e) j
  -- a thermal row that pays weighs its energy above the base, counted once; wind and solar weigh nothing
  pub once : (i : ℕ) → i < row_count s → is_thermal (counting_row s k i) ≡ true → payer (base_in s k i) (counting_row s k i) ≡ true
      → weight (base_in s k i) (counting_row s k i) ≡ (counting_row s k i).metered.0 - base_in s k i
  pub still : (i : ℕ) → i < row_count s → is_thermal (counting_row s k i) ≡ false → weight (base_in s k i) (counting_row s k i) ≡ 0

-- ---- a tier's price (02, request 1), said of the rows that count

-- a row delivers in a tier: it ran as usual, was called there for more than 0 (so it is thermal), and its meter shows energy there
pub record Delivers (r : Row) (call energy : ℕ) : Type 0 where
  pub normal : r.status ≡ normal
  pub called : 0 < call
  pub delivered : 0 < energy

-- a price is set by n rows, of which some deliver, and their bids
pub record SetBy (n : ℕ) (deliver : ℕ → Type 0) (bid : ℕ → ℕ) (price : ℕ) : Type 0 where
  -- it is the bid of a row that delivers, unless it is 0
  pub is_bid : 0 < price → (i : ℕ) × (i < n) × deliver i × (bid i ≡ price)
  -- no row that delivers bid above it
  pub highest : (i : ℕ) → i < n → deliver i → bid i ≤ price
  -- it is 0 only if nobody delivers
  pub nobody : price ≡ 0 → (i : ℕ) → i < n → deliver i → ⊥

-- both prices of a pair of files, by the calls that are stated and by what the meters show
pub record Prices (s k : List ℕ) (f : Figures) : Type 0 where
  pub tier1 :
      SetBy (row_count s) (λ i. Delivers (counting_row s k i) (at f.called1 i) (meter_energy1 (base_in s k i) (counting_row s k i)))
      (λ i. (counting_row s k i).bid1.0) f.price1
  pub tier2 :
      SetBy (row_count s) (λ i. Delivers (counting_row s k i) (at f.called2 i) (meter_energy2 (base_in s k i) (counting_row s k i)))
      (λ i. (counting_row s k i).bid2.0) f.price2

-- ---- a row's penalty (02, request 4), said of the rows that count

-- what a row owes by its status and its meter: a row of status 2, for what it was called for and the meter does not show, others nothing
abbrev pub owed_by : ℕ → Row → ℕ → ℕ → ℕ → ℕ → ℕ
owed_by base r call1 call2 price1 price2 =
    cond (eqb r.status reduced) (penalty call1 call2 (meter_energy1 base r) (meter_energy2 base r) price1 price2) 0

-- the penalties of a pair of files are these, by the calls and prices that are stated
abbrev pub Penalties : List ℕ → List ℕ → Figures → Type 0
Penalties s k f =
    (i : ℕ) → i < row_count s
    → at f.penalties i
    ≡ owed_by (base_in s k i) (counting_row s k i) (at f.called1 i) (at f.called2 i) f.price1 f.price2

-- the same rows, credited with something else: so they may owe something else, and nothing else about them has changed
abbrev pub credited_with : List ℕ → List ℕ → Duties → Duties
credited_with credits1 credits2 d =
    record {
      widths1 = d.widths1;
      widths2 = d.widths2;
      energies1 = d.energies1;
      energies2 = d.energies2;
      credits1 = credits1;
      credits2 = credits2;
      weights = d.weights;
      caps = d.caps;
      bids1 = d.bids1;
      bids2 = d.bids2;
    }

-- two settlements are the same but for penalties, cuts and what is returned
pub record SameButPenalties (f g : Figures) : Type 0 where
  pub price1 : f.price1 ≡ g.price1
  pub price2 : f.price2 ≡ g.price2
  pub total : f.total ≡ g.total
  pub shortfall : f.shortfall ≡ g.shortfall
  pub rounds : f.rounds ≡ g.rounds
  pub uncovered : f.uncovered ≡ g.uncovered
  pub visits : f.visits ≡ g.visits
  pub called1 : f.called1 ≡ g.called1
  pub called2 : f.called2 ≡ g.called2
  pub compensations : f.compensations ≡ g.compensations
  pub weights : f.weights ≡ g.weights
  pub caps : f.caps ≡ g.caps
  pub paid : f.paid ≡ g.paid
  pub closing : f.closing ≡ g.closing

-- one shortfall over the same compensations, and penalties of which the second come to no less
pub record MorePenalty (f g : Figures) : Type 0 where
  pub shortfall : f.shortfall ≡ g.shortfall
  pub compensations : f.compensations ≡ g.compensations
  pub penalties : whole f.penalties ≤ whole g.penalties

-- the second cut nobody more: not together, not anybody before fen are made (what is cut together, by its compensation), and then by a
-- fen at most, since the sharing rule may move a leftover fen from one row to another when the amount falls
pub record LessCut (f g : Figures) : Type 0 where
  pub together : whole g.cuts ≤ whole f.cuts
  pub before_fen : (i : ℕ) → whole g.cuts * at g.compensations i ≤ whole f.cuts * at f.compensations i
  pub in_fen : (i : ℕ) → at g.cuts i ≤ at f.cuts i + 1

-- ---- whose turn it is among equal remainders (02, request 2)

-- how many of n rows have their turn before the one at position i, at a quarter
abbrev pub turn_at : ℕ → ℕ → ℕ → ℕ
turn_at n quarter i = turn n (first_turn quarter n) i

-- the row at position i goes first
abbrev pub goes_first : ℕ → ℕ → ℕ → Bool
goes_first n quarter i = eqb (turn_at n quarter i) 0

-- the row at position i of a file has its turn before the row at position j
pub record Earlier (s : List ℕ) (i j : ℕ) : Type 0 where
  pub one : i < row_count s
  pub other : j < row_count s
  pub turns : turn_at (row_count s) (head_at s).quarter i < turn_at (row_count s) (head_at s).quarter j

-- a column has the same at both positions
abbrev pub Alike : List ℕ → ℕ → ℕ → Type 0
Alike xs i j = at xs i ≡ at xs j

-- what is left over goes by turn: of two rows alike in that by which they share, the one whose turn comes first has what the other
-- has, or one more
pub record InTurn (s k : List ℕ) (f : Figures) : Type 0 where
  -- bands of one bid and width in a tier
  pub calls1 : (i j : ℕ) → Earlier s i j → Alike (duties_in s k).bids1 i j → Alike (duties_in s k).widths1 i j
      → SameOrOneMore (at f.called1 i) (at f.called1 j)
  pub calls2 : (i j : ℕ) → Earlier s i j → Alike (duties_in s k).bids2 i j → Alike (duties_in s k).widths2 i j
      → SameOrOneMore (at f.called2 i) (at f.called2 j)
  -- payers of one weight that are not capped
  pub payments : (i j : ℕ) → Earlier s i j → Alike f.weights i j → at f.closing i ≡ 0 → at f.closing j ≡ 0
      → SameOrOneMore (at f.paid i) (at f.paid j)
  -- receivers of one compensation
  pub cuts : (i j : ℕ) → Earlier s i j → Alike f.compensations i j → SameOrOneMore (at f.cuts i) (at f.cuts j)
  -- rows that owe one penalty
  pub returned : (i j : ℕ) → Earlier s i j → Alike f.penalties i j → SameOrOneMore (at f.returned i) (at f.returned j)

-- the figures of a pair if equal remainders went to the lower id at every quarter, as in document 01
unfoldable pub figures_by_lower_id : List ℕ → List ℕ → Figures
figures_by_lower_id s k = figures (head_at s).need.0 0 (duties_in s k)

-- ---- how much work the rounds were (02, request 8)

-- the visits told follow from the lines: the closing rounds added up, and for each payer that never closes the rounds and one more. So
-- each payer is visited, only once if nobody ever closes, and m payers at most m (m + 1) / 2 times
pub record Visits (f : Figures) : Type 0 where
  pub told : f.visits ≡ visits_told f.weights f.closing f.rounds
  pub at_most : f.visits ≤ payers f.weights * (payers f.weights + 1) / 2
  pub at_least : payers f.weights ≤ f.visits
  pub quiet : f.rounds ≡ 0 → f.visits ≡ payers f.weights

-- ---- demand 3, said of any figures

-- the set of capped payers: those that closed
abbrev pub capped : Figures → ℕ → Bool
capped f = has_closed f.closing

-- a payer with corrected energy, capped or not
abbrev pub CappedPayer : Figures → ℕ → Type 0
CappedPayer f i = (0 < at f.weights i) × (0 < at f.closing i)

abbrev pub OpenPayer : Figures → ℕ → Type 0
OpenPayer f i = (0 < at f.weights i) × (at f.closing i ≡ 0)

-- every payer with corrected energy is capped; so it is where there is none
abbrev pub AllCapped : Figures → Type 0
AllCapped f = (i : ℕ) → 0 < at f.weights i → 0 < at f.closing i

-- the caps of the capped together, what they leave of the compensation, and the corrected energy of those not capped: what is
-- left for each of these kWh is the common rate
abbrev pub capped_caps : Figures → ℕ
capped_caps f = caps_inside f.weights f.caps (capped f)

abbrev pub left_over : Figures → ℕ
left_over f = left_by f.total f.weights f.caps (capped f)

abbrev pub open_energy : Figures → ℕ
open_energy f = weights_beside f.weights (capped f)

-- what the receiver at position i keeps
abbrev pub kept : Figures → ℕ → ℕ
kept f i = at f.compensations i - at f.cuts i

pub record Demand3 (f : Figures) : Type 0 where
  -- the total is that of the compensations
  pub total_is : f.total ≡ whole f.compensations
  -- what payers pay, with the penalties and less what is returned of them, equals what receivers keep; nobody is cut by more than it is
  -- due, and nobody is returned more than it owes
  pub paid_is_kept : (whole f.paid + whole f.penalties) - whole f.returned ≡ sum_to (length f.compensations) (kept f)
  pub cut_within : (i : ℕ) → at f.cuts i ≤ at f.compensations i
  pub returned_within : (i : ℕ) → at f.returned i ≤ at f.penalties i
  -- no payer exceeds its cap; a capped one pays just that, one without corrected energy nothing
  pub within_cap : (i : ℕ) → at f.paid i ≤ at f.caps i
  pub capped_pays_cap : (i : ℕ) → CappedPayer f i → at f.paid i ≡ at f.caps i
  pub no_energy_no_pay : (i : ℕ) → at f.weights i ≡ 0 → at f.paid i ≡ 0
  -- those not capped share what the caps leave, at one rate for each corrected kWh, off by less than a fen either way
  pub open_share_left :
      (i : ℕ) → OpenPayer f i → sum_where (length f.weights) (outside f.weights (capped f)) (at f.paid) ≡ left_over f
  pub rate_over : (i : ℕ) → OpenPayer f i → at f.paid i * open_energy f < left_over f * at f.weights i + open_energy f
  pub rate_short : (i : ℕ) → OpenPayer f i → left_over f * at f.weights i < at f.paid i * open_energy f + open_energy f
  -- at that rate, before rounding, each of them owes less than its cap, and each capped one at least its cap
  pub open_below_cap : (i : ℕ) → OpenPayer f i → left_over f * at f.weights i < at f.caps i * open_energy f
  pub capped_at_cap : (i : ℕ) → CappedPayer f i → at f.caps i * open_energy f ≤ left_over f * at f.weights i
  -- if all are capped, their caps together do not exceed the compensation
  pub all_capped_covered : AllCapped f → capped_caps f ≤ f.total
  -- the set of capped payers has this property, and only it has
  pub capped_set : Capped f.total f.weights f.caps (capped f)
  pub one_capped_set :
      (p : ℕ → Bool) → Capped f.total f.weights f.caps p → (i : ℕ) → 0 < at f.weights i → p i ≡ capped f i
  -- the shortfall told is that before penalties: what the caps fail to cover if all are capped, else nothing
  pub shortfall_all_capped : AllCapped f → f.shortfall ≡ f.total - capped_caps f
  pub shortfall_open : (i : ℕ) → OpenPayer f i → f.shortfall ≡ 0
  -- receivers are cut only if all are capped and the penalties do not cover what those caps leave, by exactly what both leave open
  pub cut_only_if_all_capped : (j : ℕ) → 0 < at f.cuts j → AllCapped f
  pub cut_only_if_uncovered : (j : ℕ) → 0 < at f.cuts j → whole f.penalties < f.total - capped_caps f
  pub cut_exactly : AllCapped f → whole f.cuts ≡ f.total - capped_caps f - whole f.penalties
  pub cut_is_shortfall_left : whole f.cuts ≡ f.shortfall - whole f.penalties
  -- what the shortfall leaves of the penalties is returned; with an open payer, or without a shortfall, every penalty whole
  pub returned_is_penalties_left : whole f.returned ≡ whole f.penalties - f.shortfall
  pub returned_whole_if_open : (i : ℕ) → OpenPayer f i → f.returned ≡ f.penalties
  pub returned_whole_if_none_short : f.shortfall ≡ 0 → f.returned ≡ f.penalties
  -- the rounds told are those in which a payer closes, and they number at most the payers with corrected energy, and at most
  -- those of them that are capped
  pub rounds_are_closings : f.rounds ≡ max_to (length f.weights) (at f.closing)
  pub somebody_closes : (r : ℕ) → 0 < r → r ≤ f.rounds → (i : ℕ) × CappedPayer f i × (at f.closing i ≡ r)
  pub rounds_at_most_payers : f.rounds ≤ payers f.weights
  pub rounds_at_most_capped : f.rounds ≤ payers_inside f.weights (capped f)
