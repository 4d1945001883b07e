-- The stages of a settlement over the sheet: what each asks of it, and what it leaves in it. Lines hold duties until the figures
-- that belong there replace them. No promise of the engine speaks of this page.
use Rattle.std.specs.Prelude.{ℕ, zero, suc, ◌+◌, ◌-◌, ◌≤◌, ◌<◌, ◌≡◌, cond, List, [], ◌∷◌, eqb, length, take}
use Rattle.columns.specs.Sum.{whole}
use Rattle.columns.specs.Table.{at, table, Below}
use Rattle.records.specs.Sheet.{Lined, cell, column_of, with_column, field_of, sheet}
use Rattle.records.specs.declared.Field.{Field}
use Rattle.files.specs.Form.{terms_of, rows_from}
use Rattle.files.specs.Terms.{baseline}
use Rattle.files.specs.Counting.{source_of, counting_row}
use Rattle.duties.specs.Average.{base_of}
use Rattle.duties.specs.Duty.{duty_of}
use Rattle.duties.specs.declared.average.Average.{Average}
use Rattle.duties.specs.declared.Duty.{Duty}
use Rattle.duties.specs.Ranged.{Ranged}
use Rattle.files.specs.declared.Row.{Row}
use Rattle.merit.specs.OneTier.{tier_calls}
use Rattle.merit.specs.Price.{price}
use Rattle.pay.specs.Pay.{compensation, penalty}
use Rattle.levy.specs.Asked.{standing_of}
use Rattle.levy.specs.Rounds.{Standing, final, visits, payments}
use Rattle.levy.specs.declared.Rest.{Rest}
use Rattle.levy.specs.declared.Left.{Left}
use Rattle.share.specs.Share.{shares}
use Rattle.statement.specs.Statement.{letter_l, line_widths, head_size}
use Rattle.statement.specs.Line as line
use Rattle.settle.specs.Within.{Turn}
use Rattle.settle.specs.declared.market.Accounts.{Accounts}
use Rattle.settle.specs.declared.market.Cleared.{Cleared}
use Rattle.settle.specs.declared.market.Market.{Market}
use Rattle.settle.specs.declared.market.Tier.{Tier}
use Rattle.settle.specs.declared.market.Tier.TheVariants.{One, Two}
use Rattle.settle.specs.declared.market.TierFields.{TierFields}
use Rattle.settle.specs.declared.payers.Part.{Part}
use Rattle.settle.specs.declared.payers.Part.TheVariants.{Cut, Returned}
use Rattle.settle.specs.declared.payers.Sharing.{Sharing}
use Rattle.settle.specs.declared.rows.Job.{Job}

-- n lines in a buffer
abbrev pub lined : List ℕ → ℕ → (ℕ → List ℕ) → List ℕ
lined out n f = sheet head_size letter_l line_widths out n f

-- n lines in a buffer, so many bytes later
abbrev pub lined_behind : ℕ → List ℕ → ℕ → (ℕ → List ℕ) → List ℕ
lined_behind extra out n f = sheet (extra + head_size) letter_l line_widths out n f

-- what all rows of a file are read by is the file's: where its rows begin, and its terms
pub record Reads (j : Job) (s : List ℕ) : Type 0 where
  pub start : j.start ≡ rows_from s
  pub terms : j.terms ≡ terms_of s

-- a row's line before the market: its id, then its duties in the places of called 1, called 2, compensation, cut, weight, cap, paid,
-- closing round, penalty and what is returned
abbrev pub duty_line : ℕ → Duty → List ℕ
duty_line id d =
    id ∷ d.width1.0 ∷ d.width2.0 ∷ d.energy1.0 ∷ d.energy2.0 ∷ d.weight.0 ∷ d.cap.0 ∷ d.bid2.0 ∷ d.bid1.0
    ∷ d.credit1.0 ∷ d.credit2.0 ∷ []

-- that of the row that counts at position i, by the average that rules
abbrev pub row_line : ℕ → Average → List ℕ → List ℕ → ℕ → List ℕ
row_line tariff a s k i =
    let r = counting_row s k i in
    duty_line r.id (duty_of (baseline (terms_of s) r.capacity) (base_of (terms_of s) a r.capacity) tariff r)

-- an array says where each of the n rows stands that count
pub record Sourced (n : ℕ) (s k sources : List ℕ) : Type 0 where
  pub long : length sources ≡ 256
  pub each : Below n (λ i. at sources i ≡ source_of s k i)

-- what may be called at each of the n positions, and then says where the row stands that counts
pub record SourcesBy (pre : ℕ → Type 0) (post : ℕ → ℕ → Type 0) (n : ℕ) (s k : List ℕ) : Type 0 where
  pub may : (i : ℕ) → i < n → pre i
  pub is : (i source : ℕ) → i < n → post i source → source ≡ source_of s k i

-- what may be called at each row in its ranges, and then gives its duties, by the average that rules
pub record DutiesBy (pre : Average → Row → Type 0) (post : Average → Row → Duty → Type 0) (a : Average) (j : Job) : Type 0 where
  pub may : (r : Row) → Ranged r → pre a r
  pub is : (r : Row) (d : Duty) → Ranged r → post a r d → d ≡ duty_of (baseline j.terms r.capacity) (base_of j.terms a r.capacity) j.tariff.0 r

-- the sheet has n lines, as far as a field goes
pub record Ruled (n : ℕ) (f : Field) (s : List ℕ) : Type 0 where
  pub lined : Lined f n s
  pub narrow : f.width ≤ 4

-- two fields of the same lines
pub record SameLines (f g : Field) : Type 0 where
  pub start : f.start ≡ g.start
  pub stride : f.stride ≡ g.stride

-- the fields of tier 1 and of tier 2; tier 1 is 0 here
abbrev pub tier_one : TierFields
tier_one = record { width = line.called1; bid = line.closing; energy = line.compensation }

abbrev pub tier_two : TierFields
tier_two = record { width = line.called2; bid = line.paid; energy = line.cut }

abbrev pub fields_of : ℕ → TierFields
fields_of tier = cond (eqb tier 0) tier_one tier_two

abbrev pub tier_fields : Tier → TierFields
tier_fields One = tier_one
tier_fields Two = tier_two

-- a tier's offers and what was delivered stand in its fields
pub record Offered (n first : ℕ) (p : TierFields) (s : List ℕ) : Type 0 where
  pub few : n ≤ 256
  pub turn : Turn n first
  pub widths : Ruled n p.width s
  pub bids : Ruled n p.bid s
  pub energies : Ruled n p.energy s
  pub narrow : (i : ℕ) → at (column_of p.width n s) i ≤ 250000
  pub low : (i : ℕ) → at (column_of p.bid n s) i < 65536

-- three columns of one length to work in, the last of them blank
pub record Lent (widths bids called : List ℕ) : Type 0 where
  pub widths_long : length widths ≡ length called
  pub bids_long : length bids ≡ length called
  pub blank : (i : ℕ) → at called i ≡ 0

-- the calls of a tier, and its price
abbrev pub calls_in : ℕ → ℕ → ℕ → TierFields → List ℕ → List ℕ
calls_in need first n p s = tier_calls need (column_of p.width n s) (column_of p.bid n s) first

abbrev pub price_in : ℕ → ℕ → ℕ → TierFields → List ℕ → ℕ
price_in need first n p s = price (column_of p.bid n s) (calls_in need first n p s) (column_of p.energy n s)

-- the tier is cleared: its calls, the need that is left, the price
pub record ClearedIn (need first n : ℕ) (p : TierFields) (s cs : List ℕ) (r : Cleared) : Type 0 where
  pub called : cs ≡ calls_in need first n p s
  pub left : r.left.0 ≡ need - whole (column_of p.width n s)
  pub price : r.price.0 ≡ price_in need first n p s

-- the tier is called: so it is cleared, and the calls stand in the place of the widths
pub record Called (need first n : ℕ) (p : TierFields) (s t : List ℕ) (r : Cleared) : Type 0 where
  pub bytes : t ≡ with_column p.width (calls_in need first n p s) s
  pub left : r.left.0 ≡ need - whole (column_of p.width n s)
  pub price : r.price.0 ≡ price_in need first n p s

-- both tiers' offers stand in their fields, the second's still once the first is called
pub record Tradable (need first n : ℕ) (s : List ℕ) : Type 0 where
  pub one : Offered n first tier_one s
  pub two : (t : List ℕ) (r : Cleared) → Called need first n tier_one s t r → Offered n first tier_two t

-- both tiers are called, the second with what the first leaves of the need
pub record Traded (need first n : ℕ) (s t : List ℕ) (m : Market) : Type 0 where
  pub between : List ℕ
  pub one : Cleared
  pub two : Cleared
  pub called1 : Called need first n tier_one s between one
  pub called2 : Called one.left.0 first n tier_two between t two
  pub uncovered : m.uncovered ≡ two.left
  pub price1 : m.price1 ≡ one.price
  pub price2 : m.price2 ≡ two.price

-- what a row is paid, and what it owes: figures by its calls, what it delivered or is credited with, and the prices of both tiers
abbrev pub Rule : Type 0
Rule = ℕ → ℕ → ℕ → ℕ → ℕ → ℕ → ℕ

-- a field of a line by its place in the table
abbrev pub line_field : ℕ → Field
line_field j = field_of head_size line_widths j

-- a rule, the field in which the energies of tier 1 stand and into which its figures go, and that of the energies of tier 2, behind it
pub record Pricing : Type 0 where
  pub rule : Rule
  pub into : ℕ
  pub beside : ℕ

-- by the energies delivered, in the places of compensation and cut
abbrev pub paying : Pricing
paying = record { rule = compensation; into = 3; beside = 4 }

-- by those credited, in the places of penalty and what is returned
abbrev pub owing : Pricing
owing = record { rule = penalty; into = 9; beside = 10 }

-- the figure of the row at position i
abbrev pub priced_at : Pricing → ℕ → ℕ → List ℕ → ℕ → ℕ
priced_at g p1 p2 s i =
    g.rule (cell line.called1 s i) (cell line.called2 s i) (cell (line_field g.into) s i) (cell (line_field g.beside) s i) p1 p2

-- calls and energies stand in their fields; prices are low, and so is every figure
pub record Accountable (n p1 p2 : ℕ) (s : List ℕ) : Type 0 where
  pub few : n ≤ 256
  pub pay_lined : Lined line.pay n s
  pub owed_lined : Lined line.owed n s
  pub low1 : p1 ≤ 1000
  pub low2 : p2 ≤ 1000
  pub pay_small : (i : ℕ) → i < n → priced_at paying p1 p2 s i ≤ 100000000
  pub owed_small : (i : ℕ) → i < n → priced_at owing p1 p2 s i ≤ 100000000

-- every row has both figures, and their sums are known
pub record Accounted (n p1 p2 : ℕ) (s t : List ℕ) (r : Accounts) : Type 0 where
  pub bytes : t ≡ with_column line.owed (table n (priced_at owing p1 p2 s)) (with_column line.pay (table n (priced_at paying p1 p2 s)) s)
  pub total : r.total.0 ≡ whole (table n (priced_at paying p1 p2 s))
  pub penalties : r.penalties.0 ≡ whole (table n (priced_at owing p1 p2 s))

-- weights and caps stand in their fields
pub record Leviable (n first total : ℕ) (s : List ℕ) : Type 0 where
  pub few : n ≤ 256
  pub turn : Turn n first
  pub weights : Ruled n line.weight s
  pub caps : Ruled n line.cap s
  pub paid : Ruled n line.paid s
  pub closing : Ruled n line.closing s
  pub rich : total ≤ 6400000000
  pub light : (i : ℕ) → at (column_of line.weight n s) i ≤ 550000000
  pub low : (i : ℕ) → at (column_of line.cap n s) i ≤ 44000000

-- how things stand after the rounds of a total over the sheet's weights and caps
abbrev pub standing_in : ℕ → ℕ → List ℕ → Standing
standing_in total n s = final total (column_of line.weight n s) (column_of line.cap n s)

-- the rounds are over: how things stand, and the payments in front of an array
pub record LeviedOn (n first total : ℕ) (ws cs marks paid : List ℕ) (r : Rest) : Type 0 where
  pub stands : standing_of n marks r ≡ final total ws cs
  pub marks_long : length marks ≡ 256
  pub paid_long : length paid ≡ 256
  pub payments : take n paid ≡ payments ws cs (final total ws cs) first
  pub visits : r.visits ≡ visits total ws cs

-- everybody has paid: payments and closing rounds stand in their fields, and what is left is known
pub record Levied (n first total : ℕ) (s t : List ℕ) (r : Rest) : Type 0 where
  pub bytes : t ≡ with_column line.closing (standing_in total n s).marks
      (with_column line.paid (payments (column_of line.weight n s) (column_of line.cap n s) (standing_in total n s) first) s)
  pub money : r.money.0 ≡ (standing_in total n s).money
  pub weight : r.weight ≡ (standing_in total n s).weight
  pub rounds : r.rounds ≡ (standing_in total n s).rounds
  pub visits : r.visits ≡ visits total (column_of line.weight n s) (column_of line.cap n s)

-- what is cut, over the compensations, and what is returned, over the penalties
abbrev pub cutting : Left → Sharing
cutting left = record { amount = left.cut; from = line.compensation; to = line.cut }

abbrev pub returning : Left → Sharing
returning left = record { amount = left.returned; from = line.penalty; to = line.returned }

abbrev pub sharing_of : Left → ℕ → Sharing
sharing_of left k = cond (eqb k 0) (cutting left) (returning left)

abbrev pub part_of : Left → Part → Sharing
part_of left Cut = cutting left
part_of left Returned = returning left

-- an amount shared over the sums of a field, with the shares in another
abbrev pub shared_out : ℕ → ℕ → Sharing → List ℕ → List ℕ
shared_out n first what s = with_column what.to (shares what.amount.0 (column_of what.from n s) first) s

-- sums stand in a field, and no more is shared over them than they come to; where there is nothing to share, it is as if it had been
pub record Shareable (n first : ℕ) (what : Sharing) (s : List ℕ) : Type 0 where
  pub few : n ≤ 256
  pub turn : Turn n first
  pub sums : Ruled n what.from s
  pub parts : Ruled n what.to s
  pub covered : what.amount.0 ≤ whole (column_of what.from n s)
  pub idle : what.amount.0 ≡ 0 → s ≡ shared_out n first what s

-- the first so many of the two sharings are made
unfoldable pub divided_to : ℕ → ℕ → ℕ → Left → List ℕ → List ℕ
divided_to zero n first left s = s
divided_to (suc k) n first left s = shared_out n first (sharing_of left k) (divided_to k n first left s)

-- each may be made once those before it are
abbrev pub Divisible : ℕ → ℕ → Left → List ℕ → Type 0
Divisible n first left s = (k : ℕ) → k < 2 → Shareable n first (sharing_of left k) (divided_to k n first left s)
