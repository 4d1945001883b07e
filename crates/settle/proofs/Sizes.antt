-- How large the figures of a statement get, of any columns within sizes; proofs/Accepted.antt has it of an accepted pair of files.
--   pay-length, pay_small, total-rich     the column of compensations, its numbers, its sum
--   owed-length, owed_small               the column of penalties, its numbers
--   figures-long         a number in every column for each row
--   figures-sized        every figure by its bound (record Sized)
use Prim.Native.Nat.{ℕ, ◌+◌, ◌≤◌}
use mathlib.Core.Path.{◌≡◌, refl, ◌∙◌}
use mathlib.Core.List.{List}
use native.Mathlib.Nat.{mul-le-mul}
use native.Mathlib.Omega.{arith}
use lib.Dec.{ltb}
use lib.ListN.{length}
use Rattle.columns.specs.Sum.{whole}
use Rattle.columns.specs.Table.{at}
use Rattle.columns.proofs.Sum.{count-le}
use Rattle.columns.proofs.Table.{table-length, table-most}
use Rattle.columns.proofs.Whole.{whole-bound}
use Rattle.merit.specs.Band.{one, two, Bands}
use Rattle.merit.specs.Call.{calls, uncovered}
use Rattle.merit.proofs.Laws.{calls-length, calls-le, price-le}
use Rattle.pay.specs.Pay.{compensation, penalty}
use Rattle.pay.proofs.Laws.{compensation-most, penalty-most}
use Rattle.levy.specs.Rounds.{payers, final, visits}
use Rattle.levy.proofs.Step.{final-sound}
use Rattle.levy.proofs.Count.{rounds-count, marks-rounds}
use Rattle.levy.proofs.Visits.{visits-most}
use Rattle.levy.proofs.Payment.{payments-length, payment-le-cap, shortfall-le}
use Rattle.levy.proofs.Cut.{cuts-length, cut-le, returned-length, returned-le}
use Rattle.duties.specs.Duties.{Duties, Level}
use Rattle.settle.specs.Settlement.{bands_of, compensations_of, penalties_of, Figures, levied, figures}
use Rattle.settle.specs.Within.{Within}

-- every figure of a statement by its bound
pub record Sized (need n : ℕ) (f : Figures) : Type 0 where
  pub price1 : f.price1 ≤ 1000
  pub price2 : f.price2 ≤ 1000
  pub total : f.total ≤ 6400000000
  pub shortfall : f.shortfall ≤ f.total
  pub rounds : f.rounds ≤ n
  pub uncovered : f.uncovered ≤ need
  pub visits : f.visits ≤ 32896
  pub called1 : (i : ℕ) → at f.called1 i ≤ 250000
  pub called2 : (i : ℕ) → at f.called2 i ≤ 250000
  pub compensations : (i : ℕ) → at f.compensations i ≤ 25000000
  pub cuts : (i : ℕ) → at f.cuts i ≤ at f.compensations i
  pub weights : (i : ℕ) → at f.weights i ≤ 550000000
  pub caps : (i : ℕ) → at f.caps i ≤ 44000000
  pub paid : (i : ℕ) → at f.paid i ≤ at f.caps i
  pub closing : (i : ℕ) → at f.closing i ≤ f.rounds
  pub penalties : (i : ℕ) → at f.penalties i ≤ 100000000
  pub returned : (i : ℕ) → at f.returned i ≤ at f.penalties i

-- a number in every column for each row
pub record Long (n : ℕ) (f : Figures) : Type 0 where
  pub called1 : length f.called1 ≡ n
  pub called2 : length f.called2 ≡ n
  pub compensations : length f.compensations ≡ n
  pub cuts : length f.cuts ≡ n
  pub weights : length f.weights ≡ n
  pub caps : length f.caps ≡ n
  pub paid : length f.paid ≡ n
  pub closing : length f.closing ≡ n
  pub penalties : length f.penalties ≡ n
  pub returned : length f.returned ≡ n

-- payers number at most the weights, and so do rounds; 256 payers are visited at most 256 * 257 / 2 times
payers-few : (ws : List ℕ) → payers ws ≤ length ws
unfolding payers
payers-few ws = count-le (length ws) (λ i. ltb 0 (at ws i))

rounds-few : (total : ℕ) (ws cs : List ℕ) → (final total ws cs).rounds ≤ length ws
rounds-few total ws cs = omega (arith, rounds-count total ws cs, payers-few ws)

visits-few : (total : ℕ) (ws cs : List ℕ) → length ws ≤ 256 → visits total ws cs ≤ 32896
visits-few total ws cs few =
    let m : payers ws ≤ 256 = omega (arith, payers-few ws) in
    let m+1 : payers ws + 1 ≤ 257 = omega arith in
    omega (arith, visits-most total ws cs, mul-le-mul m m+1)

module _ (n : ℕ) (d : Duties) where
  pub pay-length : Level n d → (c1 c2 : List ℕ) (p1 p2 : ℕ) → length (compensations_of d c1 c2 p1 p2) ≡ n
  unfolding compensations_of
  pay-length level c1 c2 p1 p2 =
      table-length (length d.widths1) (λ i. compensation (at c1 i) (at c2 i) (at d.energies1 i) (at d.energies2 i) p1 p2)
      ∙ level.widths1

  module _ (within : Within n d) (c1 c2 : List ℕ) (p1 p2 : ℕ) (low1 : p1 ≤ 1000) (low2 : p2 ≤ 1000) where
    pub pay_small : (i : ℕ) → at (compensations_of d c1 c2 p1 p2) i ≤ 25000000
    unfolding compensations_of
    pay_small =
        table-most (length d.widths1) 25000000
        (λ i. compensation (at c1 i) (at c2 i) (at d.energies1 i) (at d.energies2 i) p1 p2)
        (λ i l. compensation-most (at c1 i) (at c2 i) (at d.energies1 i) (at d.energies2 i) p1 p2 (within.delivered i) low1 low2)

    pub total-rich : whole (compensations_of d c1 c2 p1 p2) ≤ 6400000000
    total-rich =
        omega (
          arith,
          within.few,
          whole-bound (compensations_of d c1 c2 p1 p2) 25000000 pay_small,
          pay-length within.level c1 c2 p1 p2,
        )

  pub owed-length : Level n d → (c1 c2 : List ℕ) (p1 p2 : ℕ) → length (penalties_of d c1 c2 p1 p2) ≡ n
  unfolding penalties_of
  owed-length level c1 c2 p1 p2 =
      table-length (length d.widths1) (λ i. penalty (at c1 i) (at c2 i) (at d.credits1 i) (at d.credits2 i) p1 p2)
      ∙ level.widths1

  pub owed_small : (c1 c2 : List ℕ) → ((i : ℕ) → at c1 i ≤ 250000) → ((i : ℕ) → at c2 i ≤ 250000) → (p1 p2 : ℕ) → p1 ≤ 1000 → p2 ≤ 1000
      → (i : ℕ) → at (penalties_of d c1 c2 p1 p2) i ≤ 100000000
  unfolding penalties_of
  owed_small c1 c2 narrow1 narrow2 p1 p2 low1 low2 =
      table-most (length d.widths1) 100000000
      (λ i. penalty (at c1 i) (at c2 i) (at d.credits1 i) (at d.credits2 i) p1 p2)
      (λ i l. penalty-most (at c1 i) (at c2 i) (at d.credits1 i) (at d.credits2 i) p1 p2 (narrow1 i) (narrow2 i) low1 low2)

module _ (need first n : ℕ) (d : Duties) where
  abbrev b : Bands
  b = bands_of d

  abbrev f : Figures
  f = figures need first d

  pub figures-long : Level n d → Long n (figures need first d)
  unfolding figures levied
  figures-long level =
      let pay = f.compensations in
      let owed = f.penalties in
      let ws = d.weights in
      let cs = d.caps in
      record {
        called1 = calls-length need b first one ∙ level.widths1;
        called2 = calls-length need b first two ∙ level.widths1;
        compensations = pay-length n d level _ _ _ _;
        cuts = cuts-length (whole pay) ws cs owed first pay ∙ pay-length n d level _ _ _ _;
        weights = level.weights;
        caps = level.caps;
        paid = payments-length ws cs (final (whole pay) ws cs) first ∙ level.weights;
        closing = (final-sound (whole pay) ws cs).long ∙ level.weights;
        penalties = owed-length n d level _ _ _ _;
        returned = returned-length (whole pay) ws cs owed first ∙ owed-length n d level _ _ _ _;
      }

  pub figures-sized : Within n d → Sized need n (figures need first d)
  unfolding figures levied
  figures-sized within =
      let c1 = calls need b first one in
      let c2 = calls need b first two in
      let p1 = price-le d.bids1 c1 d.energies1 1000 (λ i _. within.low1 i) in
      let p2 = price-le d.bids2 c2 d.energies2 1000 (λ i _. within.low2 i) in
      let pay = f.compensations in
      let owed = f.penalties in
      let ws = d.weights in
      let cs = d.caps in
      record {
        price1 = p1;
        price2 = p2;
        total = total-rich n d within c1 c2 _ _ p1 p2;
        shortfall = shortfall-le (whole pay) ws cs;
        rounds = omega (arith, rounds-few (whole pay) ws cs, within.level.weights);
        uncovered = uncovered-le;
        visits = visits-few (whole pay) ws cs (omega (arith, within.few, within.level.weights));
        called1 = narrow1;
        called2 = narrow2;
        compensations = pay_small n d within c1 c2 _ _ p1 p2;
        cuts = cut-le (whole pay) ws cs owed first pay refl;
        weights = within.light;
        caps = within.covered;
        paid = payment-le-cap (whole pay) ws cs first;
        closing = marks-rounds (whole pay) ws cs;
        penalties = owed_small n d c1 c2 narrow1 narrow2 _ _ p1 p2;
        returned = returned-le (whole pay) ws cs owed first;
      }
    where
      narrow1 : (i : ℕ) → at (calls need b first one) i ≤ 250000
      narrow1 i = omega (arith, calls-le need b first one i, within.narrow1 i)

      narrow2 : (i : ℕ) → at (calls need b first two) i ≤ 250000
      narrow2 i = omega (arith, calls-le need b first two i, within.narrow2 i)

      uncovered-le : uncovered need b ≤ need
      uncovered-le = unfold uncovered in omega arith
