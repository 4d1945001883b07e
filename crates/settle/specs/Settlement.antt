-- The rules put together: from columns of duties to the figures of a statement (01, Calls and prices to Rounds; prices by 02,
-- request 1, leftovers by its request 2, penalties by its request 4, visits by its request 8). Nothing here knows where the columns came from.
use Rattle.std.specs.Prelude.{ℕ, ◌%◌, cond, List, eqb, length}
use Rattle.columns.specs.Sum.{whole}
use Rattle.columns.specs.Table.{at, table}
use Rattle.duties.specs.Duties.{Duties}
use Rattle.merit.specs.Band.{one, two, Bands}
use Rattle.merit.specs.Call.{calls, uncovered}
use Rattle.merit.specs.Price.{price}
use Rattle.pay.specs.Pay.{compensation, penalty}
use Rattle.levy.specs.Rounds.{Standing, final, visits, payments, shortfall, cuts, returned}

-- the position whose turn comes first among equal remainders: the quarter modulo the n rows of the file, sharers or not. Without
-- rows there is nothing to divide by, and nobody shares
unfoldable pub first_turn : ℕ → ℕ → ℕ
first_turn quarter n = cond (eqb n 0) 0 (quarter % n)

-- what the rows offer in both tiers
abbrev pub bands_of : Duties → Bands
bands_of d =
    record { widths1 = d.widths1; widths2 = d.widths2; bids1 = d.bids1; bids2 = d.bids2 }

-- what each row is paid: the energies that it delivered where it was called, at the prices of both tiers
unfoldable pub compensations_of : Duties → List ℕ → List ℕ → ℕ → ℕ → List ℕ
compensations_of d called1 called2 price1 price2 =
    table (length d.widths1)
    (λ i. compensation (at called1 i) (at called2 i) (at d.energies1 i) (at d.energies2 i) price1 price2)

-- what each row owes: its calls less what it is credited with, at twice the prices of both tiers
unfoldable pub penalties_of : Duties → List ℕ → List ℕ → ℕ → ℕ → List ℕ
penalties_of d called1 called2 price1 price2 =
    table (length d.widths1)
    (λ i. penalty (at called1 i) (at called2 i) (at d.credits1 i) (at d.credits2 i) price1 price2)

-- the figures of a statement: what its head shows, and a column for each field of a line
pub record Figures : Type 0 where
  pub price1 : ℕ
  pub price2 : ℕ
  pub total : ℕ
  pub shortfall : ℕ
  pub rounds : ℕ
  pub uncovered : ℕ
  pub visits : ℕ
  pub called1 : List ℕ
  pub called2 : List ℕ
  pub compensations : List ℕ
  pub cuts : List ℕ
  pub weights : List ℕ
  pub caps : List ℕ
  pub paid : List ℕ
  pub closing : List ℕ
  pub penalties : List ℕ
  pub returned : List ℕ

-- what the rounds make of compensations, weights and caps
unfoldable pub levied : List ℕ → List ℕ → List ℕ → Standing
levied pay ws cs = final (whole pay) ws cs

-- calls, prices, compensations, rounds, visits, payments, penalties, cuts and what is returned of a need, by the position that goes first.
-- The shortfall is that before penalties
unfoldable pub figures : ℕ → ℕ → Duties → Figures
figures need first d =
    let b = bands_of d in
    let c1 = calls need b first one in
    let c2 = calls need b first two in
    let p1 = price d.bids1 c1 d.energies1 in
    let p2 = price d.bids2 c2 d.energies2 in
    let pay = compensations_of d c1 c2 p1 p2 in
    let owed = penalties_of d c1 c2 p1 p2 in
    let st = levied pay d.weights d.caps in
    record {
      price1 = p1;
      price2 = p2;
      total = whole pay;
      shortfall = shortfall st;
      rounds = st.rounds;
      uncovered = uncovered need b;
      visits = visits (whole pay) d.weights d.caps;
      called1 = c1;
      called2 = c2;
      compensations = pay;
      cuts = cuts st owed pay first;
      weights = d.weights;
      caps = d.caps;
      paid = payments d.weights d.caps st first;
      closing = st.marks;
      penalties = owed;
      returned = returned st owed first;
    }
