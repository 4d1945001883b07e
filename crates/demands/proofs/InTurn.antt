-- What is left over of calls, payments, cuts and returned penalties goes by turn (02, requests 2 and 4). The sentences are the fields of `InTurn` (specs/Promise.antt).
--   calls-in-turn, paid-in-turn, cuts-in-turn, returned-in-turn     of the figures of any columns of one length
--   accepted-in-turn, statement-in-turn           of an accepted pair, and of the bytes of its statement
use Prim.Native.Nat.{ℕ, ◌<◌}
use mathlib.Core.Path.{◌≡◌}
use mathlib.Core.List.{List}
use native.Mathlib.Omega.{arith}
use lib.ListN.{length}
use Rattle.columns.specs.Sum.{whole}
use Rattle.columns.specs.Table.{at}
use Rattle.files.specs.Layout.{head_at, row_count}
use Rattle.files.specs.Counting.{counting_row}
use Rattle.duties.specs.Duties.{Duties, Level}
use Rattle.duties.proofs.Laws.{duties-level}
use Rattle.share.specs.Share.{turn, SameOrOneMore}
use Rattle.merit.specs.Band.{Tier, one, two, widths, bids}
use Rattle.merit.specs.Call.{calls}
use Rattle.merit.proofs.Laws.{calls_at, called-alike}
use Rattle.levy.specs.Rounds.{final}
use Rattle.levy.proofs.Step.{final-sound}
use Rattle.levy.proofs.Payment.{paid-alike}
use Rattle.levy.proofs.Cut.{cut-alike, returned-alike}
use Rattle.settle.specs.Settlement.{first_turn, bands_of, Figures, levied, figures}
use Rattle.settle.specs.Within.{Turn}
use Rattle.files.specs.Verdict.{number_of}
use Rattle.settle.specs.Answer.{limit_in, base_in, duties_in, figures_of, answer_of, buffer_after}
use Rattle.demands.specs.Promise.{figures_at, Alike, InTurn}
use Rattle.settle.proofs.Accepted.{first-inside}
use Rattle.settle.proofs.Sizes.{figures-long}
use Rattle.demands.proofs.Demand2.{statement-figures}

-- ---- the figures of any columns of one length, at two positions of which the first has the earlier turn

module _ (need first n : ℕ) (d : Duties) (level : Level n d) (goes : Turn n first) (i j : ℕ) (l : i < n) (m : j < n) (before : turn n first i < turn n first j) where
  abbrev f : Figures
  f = figures need first d

  inside : first < n
  inside = goes (omega arith)

  calls-in-turn : (t : Tier) → Alike (bids (bands_of d) t) i j → Alike (widths (bands_of d) t) i j
      → SameOrOneMore (at (calls need (bands_of d) first t) i) (at (calls need (bands_of d) first t) j)
  calls-in-turn t e w =
      let long = level.widths1 in
      rw (calls_at need (bands_of d) first t i, calls_at need (bands_of d) first t j)
      (called-alike need (bands_of d) first t i j (omega (arith, long, inside)) (omega (arith, long)) (omega (arith, long)) e w (rw long before))

  paid-in-turn : Alike f.weights i j → at f.closing i ≡ 0 → at f.closing j ≡ 0 → SameOrOneMore (at f.paid i) (at f.paid j)
  unfolding figures levied
  paid-in-turn e y z =
      let long = level.weights in
      let total = whole f.compensations in
      paid-alike total d.weights d.caps (final total d.weights d.caps) (final-sound total d.weights d.caps) first i j
      (omega (arith, long, inside)) (omega (arith, long)) e y z (rw long before)

  cuts-in-turn : Alike f.compensations i j → SameOrOneMore (at f.cuts i) (at f.cuts j)
  unfolding figures levied
  cuts-in-turn e =
      let long = (figures-long need first n d level).compensations in
      cut-alike (whole f.compensations) d.weights d.caps f.penalties first f.compensations i j (omega (arith, long, inside)) (omega (arith, long)) e
      (rw long before)

  returned-in-turn : Alike f.penalties i j → SameOrOneMore (at f.returned i) (at f.returned j)
  unfolding figures levied
  returned-in-turn e =
      let long = (figures-long need first n d level).penalties in
      returned-alike (whole f.compensations) d.weights d.caps f.penalties first i j (omega (arith, long, inside)) (omega (arith, long)) e
      (rw long before)

-- ---- an accepted pair of files, and the bytes of its statement

pub accepted-in-turn : (s k : List ℕ) → InTurn s k (figures_of s k)
unfolding figures_of figures
accepted-in-turn s k =
    let d = duties_in s k in
    let first = first_turn (head_at s).quarter (row_count s) in
    let level : Level (row_count s) d =
    unfold duties_in in duties-level (limit_in s k) (base_in s k) (head_at s).tariff.0 (row_count s) (counting_row s k) in
    let goes = first-inside (head_at s).quarter (row_count s) in
    let need = (head_at s).need.0 in
    record {
      calls1 = λ i j x. calls-in-turn need first (row_count s) d level goes i j x.one x.other x.turns one;
      calls2 = λ i j x. calls-in-turn need first (row_count s) d level goes i j x.one x.other x.turns two;
      payments = λ i j x. paid-in-turn need first (row_count s) d level goes i j x.one x.other x.turns;
      cuts = λ i j x. cuts-in-turn need first (row_count s) d level goes i j x.one x.other x.turns;
      returned = λ i j x. returned-in-turn need first (row_count s) d level goes i j x.one x.other x.turns;
    }

pub statement-in-turn : (s k out : List ℕ) → number_of (answer_of s k (length out)) ≡ 0 → InTurn s k (figures_at (buffer_after s k out))
statement-in-turn s k out h = rw (statement-figures s k out h) (accepted-in-turn s k)
