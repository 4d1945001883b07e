-- Worked figures of the requests of document 02 that have landed, a table in the manner of specs/Table.antt: a few rows of 100 MW, from
-- their bytes through the settlement to the statement's bytes read back.
use Rattle.std.specs.Prelude.{ℕ, ◌+◌, List, [], ◌∷◌, ◌++◌, length, replicate}
use Rattle.records.specs.Fields.{fields_bytes}
use Rattle.records.specs.Record.{record_bytes, records_bytes}
use Rattle.records.specs.Sheet.{cell, column_of}
use Rattle.records.specs.declared.Field.{Field}
use Rattle.columns.specs.Sum.{whole}
use Rattle.columns.specs.Table.{at}
use Rattle.units.specs.Measure.{thermal_cap, renewable_cap}
use Rattle.units.specs.Load.{load}
use Rattle.files.specs.Layout.{letter_r, head_widths, row_widths, row_count}
use Rattle.files.specs.Terms.{terms01}
use Rattle.files.specs.Form.{letter_h, letter_g, terms_widths, terms_fields}
use Rattle.share.specs.Share.{shares}
use Rattle.merit.specs.Band.{one}
use Rattle.merit.specs.Call.{calls}
use Rattle.merit.specs.Price.{price}
use Rattle.pay.specs.Pay.{penalty}
use Rattle.duties.specs.Duty.{thermal_weight}
use Rattle.levy.specs.Rounds.{final, visits}
use Rattle.statement.specs.Statement.{line_start, head_in, terms_in, body_in}
use Rattle.statement.specs.Line as line
use Rattle.settle.specs.Settlement.{first_turn}
use Rattle.files.specs.Verdict.{number_of, value_of}
use Rattle.settle.specs.Answer.{size_of, answer_of, buffer_after}
use Rattle.demands.specs.Table.{Entry, entry, interval_x, two_bands}

-- the fields of a thermal row that offers down to 8,000 kWh, by its id, metered energy, status and bids; of one that does not offer;
-- of a wind farm
abbrev pub offering : ℕ → ℕ → ℕ → ℕ → ℕ → List ℕ
offering id metered status bid1 bid2 = id ∷ 1 ∷ 100 ∷ metered ∷ status ∷ 1 ∷ 8000 ∷ bid1 ∷ bid2 ∷ []

abbrev pub thermal_row : ℕ → ℕ → List ℕ
thermal_row id metered = id ∷ 1 ∷ 100 ∷ metered ∷ 0 ∷ 0 ∷ 0 ∷ 0 ∷ 0 ∷ []

abbrev pub wind_row : ℕ → ℕ → List ℕ
wind_row id metered = id ∷ 2 ∷ 100 ∷ metered ∷ 0 ∷ 0 ∷ 0 ∷ 0 ∷ 0 ∷ []

-- a farm in a grid accident, which does not pay; its meter shows a kWh, so that the thermal average does not rule
abbrev pub down_row : ℕ → List ℕ
down_row id = id ∷ 2 ∷ 100 ∷ 1 ∷ 3 ∷ 0 ∷ 0 ∷ 0 ∷ 0 ∷ []

-- the file of a quarter, a tariff, a need and rows
unfoldable pub file_of : ℕ → ℕ → ℕ → List (List ℕ) → List ℕ
file_of quarter tariff need rows =
    record_bytes letter_h head_widths (0 ∷ quarter ∷ tariff ∷ need ∷ length rows ∷ []) ++ records_bytes letter_r row_widths rows

-- ---- request 1, who delivered sets the price

-- the settlement of three rows read back: number, prices, total, shortfall, rounds; then for each row what it is paid, and what it pays
unfoldable pub settled_three : List ℕ → List ℕ
settled_three s =
    let b = buffer_after s [] (replicate (size_of s) 255) in
    let h = head_in b in
    let out = body_in b in
    number_of (answer_of s [] (size_of s)) ∷ h.price1.0 ∷ h.price2.0 ∷ h.total.0 ∷ h.shortfall.0 ∷ h.rounds
    ∷ cell line.compensation out 0 ∷ cell line.compensation out 1 ∷ cell line.compensation out 2
    ∷ cell line.paid out 0 ∷ cell line.paid out 1 ∷ cell line.paid out 2 ∷ []

-- interval X with row 1 at another meter reading
abbrev pub metered_x : ℕ → List ℕ
metered_x metered = file_of 0 1300 3000 (offering 1 metered 0 200 400 ∷ thermal_row 2 20000 ∷ wind_row 3 5000 ∷ [])

-- row 1 of interval X and its wind farm; between them a dearer offer. A need of 9,000 calls both in full
abbrev pub beside_at : ℕ → ℕ → ℕ → ℕ → List ℕ
beside_at tariff need metered status =
    file_of 0 tariff need (offering 1 9000 0 200 400 ∷ offering 2 metered status 300 500 ∷ wind_row 3 5000 ∷ [])

abbrev pub beside_x : ℕ → ℕ → List ℕ
beside_x metered status = beside_at 1300 9000 metered status

-- the price of P9's two bands if the first alone has energy
abbrev pub price_two : ℕ → ℕ
price_two need = price two_bands.bids1 (calls need two_bands 0 one) (2500 ∷ 0 ∷ [])

-- ---- request 2, leftovers go round

-- an amount shared at a quarter over the weights of all rows
abbrev pub shared_at : ℕ → ℕ → List ℕ → List ℕ
shared_at quarter a ws = shares a ws (first_turn quarter (length ws))

-- a field of each line of a file's statement
unfoldable pub told : Field → List ℕ → List ℕ
told f s = column_of f (row_count s) (body_in (buffer_after s [] (replicate (size_of s) 255)))

-- two rows that offer alike, of which 101 kWh are needed, and a wind farm
abbrev pub tied_calls : ℕ → List ℕ
tied_calls quarter =
    told line.called1 (file_of quarter 1300 101 (offering 1 12500 0 200 400 ∷ offering 2 12500 0 200 400 ∷ wind_row 3 5000 ∷ []))

-- a row that delivers 5 kWh at 200 li, and three wind farms alike that pay the 100 fen
abbrev pub tied_payments : ℕ → List ℕ
tied_payments quarter =
    told line.paid
    (file_of quarter 1300 2500 (offering 1 12495 0 200 400 ∷ wind_row 2 5000 ∷ wind_row 3 5000 ∷ wind_row 4 5000 ∷ []))

-- three rows that deliver 5 kWh each, and a wind farm whose cap is 100 of the 300 fen
abbrev pub tied_cuts : ℕ → List ℕ
tied_cuts quarter =
    told line.cut
    (file_of quarter 100 7500
    (offering 1 12495 0 200 400 ∷ offering 2 12495 0 200 400 ∷ offering 3 12495 0 200 400 ∷ wind_row 4 200 ∷ []))

-- a file of no rows: number, count of bytes, then quarter and uncovered need as the statement has them
unfoldable pub settled_none : ℕ → List ℕ
settled_none quarter =
    let s = file_of quarter 1300 3000 [] in
    let h = head_in (buffer_after s [] (replicate 40 255)) in
    number_of (answer_of s [] 40) ∷ value_of (answer_of s [] 40) ∷ h.quarter ∷ h.uncovered.0 ∷ []

-- ---- request 4, penalty money first

-- the settlement of such a file with the dearer row reduced, read back: total, shortfall, rounds; what row 1 is cut; what rows 2 and 3 pay;
-- what row 2 owes, and what is returned to it
unfoldable pub settled_reduced : ℕ → ℕ → List ℕ
settled_reduced tariff metered =
    let out = buffer_after (beside_at tariff 9000 metered 2) [] (replicate 166 255) in
    let h = head_in out in
    h.total.0 ∷ h.shortfall.0 ∷ h.rounds ∷ cell line.cut out 0 ∷ cell line.paid out 1 ∷ cell line.paid out 2
    ∷ cell line.penalty out 1 ∷ cell line.returned out 1 ∷ []

-- a row that delivers 5 kWh at 200 li, for which nobody pays the 100 fen, three rows that are a kWh short each, and a farm in an accident
abbrev pub tied_returns : ℕ → List ℕ
tied_returns quarter =
    told line.returned
    (file_of quarter 1300 10000
    (offering 1 12495 0 200 400 ∷ offering 2 10001 2 200 400 ∷ offering 3 10001 2 200 400 ∷ offering 4 10001 2 200 400 ∷ down_row 5 ∷ []))

-- rows that deliver 40, 40 and 1 kWh at 105 li, a wind farm that pays 3 of the 851 fen, and a row that is short of so many kWh
abbrev pub short_of : ℕ → List ℕ
short_of kwh =
    file_of 0 200 10000
    (offering 1 12460 0 105 400 ∷ offering 2 12460 0 105 400 ∷ offering 3 12499 0 105 400 ∷ wind_row 4 3
    ∷ offering 5 (10000 + kwh) 2 105 400 ∷ [])

-- ---- request 6, terms by date

-- the file that states terms, percent and four limits, of a quarter, a tariff, a need and rows
unfoldable pub stated_file : List ℕ → ℕ → ℕ → ℕ → List (List ℕ) → List ℕ
stated_file terms quarter tariff need rows =
    record_bytes letter_g head_widths (0 ∷ quarter ∷ tariff ∷ need ∷ length rows ∷ [])
    ++ (fields_bytes terms_widths terms ++ records_bytes letter_r row_widths rows)

-- terms at 45 percent, limits equal in the middle, and those of document 01
abbrev pub at45 : List ℕ
at45 = 45 ∷ 150 ∷ 330 ∷ 330 ∷ 760 ∷ []

abbrev pub at01 : List ℕ
at01 = terms_fields terms01

-- the rows of interval X; and with the row between, which ran above 45 percent and below half load, in the place of row 2
abbrev pub rows_x : List (List ℕ)
rows_x = offering 1 9000 0 200 400 ∷ thermal_row 2 20000 ∷ wind_row 3 5000 ∷ []

abbrev pub rows_between : List (List ℕ)
rows_between = offering 1 9000 0 200 400 ∷ offering 2 12000 0 200 400 ∷ wind_row 3 5000 ∷ []

-- number and value of the answer to a file alone, in a buffer of so many bytes
abbrev pub answered : ℕ → List ℕ → List ℕ
answered room s = number_of (answer_of s [] room) ∷ value_of (answer_of s [] room) ∷ []

-- the number that a file with these terms and no rows gets, at a tariff
abbrev pub terms_answer : ℕ → List ℕ → ℕ
terms_answer tariff terms = number_of (answer_of (stated_file terms 0 tariff 0 []) [] 49)

-- the answer to one row of 1 MW at 45 percent, by its minimum and its bids
abbrev pub row_answer : ℕ → ℕ → ℕ → List ℕ
row_answer minimum bid1 bid2 = answered 91 (stated_file at45 0 1300 0 ((1 ∷ 1 ∷ 1 ∷ 100 ∷ 0 ∷ 1 ∷ minimum ∷ bid1 ∷ bid2 ∷ []) ∷ []))

-- the terms that a file's statement says
unfoldable pub ruled : List ℕ → List ℕ
ruled s = terms_fields (terms_in (buffer_after s [] (replicate (size_of s) 255)))

-- ---- request 8, how much work a quarter can take

-- rounds and visits as a file's statement tells them, then the closing round of each line
unfoldable pub visited : List ℕ → List ℕ
visited s =
    let out = buffer_after s [] (replicate (line_start (row_count s)) 255) in
    let h = head_in out in
    h.rounds ∷ h.visits ∷ column_of line.closing (row_count s) out

-- interval X with row 2 at 110 percent and another thermal row at 60: payers of 37,500, 5,000 and 2,500 kWh, who owe 75,000, 10,000 and
-- 5,000 fen in round 1
abbrev pub three_payers : ℕ → List ℕ
three_payers tariff =
    file_of 0 tariff 3000 (offering 1 9000 0 200 400 ∷ thermal_row 2 27500 ∷ wind_row 3 5000 ∷ thermal_row 4 15000 ∷ [])

-- the payers of the ladder of 27 rounds (rust/cases), in groups of rows alike from the first that close: how many, their capacity and
-- metered energy. First thermal rows, then wind farms, at tariff 7777
abbrev pub thermal_rungs : List (List ℕ)
thermal_rungs =
    (14 ∷ 1988 ∷ 543031 ∷ []) ∷ (23 ∷ 1997 ∷ 397953 ∷ []) ∷ (22 ∷ 1987 ∷ 373964 ∷ []) ∷ (17 ∷ 1995 ∷ 368208 ∷ []) ∷ (12 ∷ 1982 ∷ 362530 ∷ []) ∷
    (8 ∷ 1920 ∷ 349468 ∷ []) ∷ (5 ∷ 1954 ∷ 354571 ∷ []) ∷ (3 ∷ 1781 ∷ 322520 ∷ []) ∷ (2 ∷ 1836 ∷ 331980 ∷ []) ∷ (1 ∷ 1676 ∷ 302742 ∷ []) ∷
    (1 ∷ 1113 ∷ 200869 ∷ []) ∷ (1 ∷ 677 ∷ 122112 ∷ []) ∷ (1 ∷ 337 ∷ 60759 ∷ []) ∷ (1 ∷ 181 ∷ 32621 ∷ []) ∷ (3 ∷ 40 ∷ 7207 ∷ []) ∷
    (2 ∷ 35 ∷ 6305 ∷ []) ∷ (1 ∷ 34 ∷ 6124 ∷ []) ∷ (1 ∷ 21 ∷ 3782 ∷ []) ∷ (1 ∷ 13 ∷ 2341 ∷ []) ∷ []

abbrev pub wind_rungs : List (List ℕ)
wind_rungs =
    (33 ∷ 1 ∷ 11 ∷ []) ∷ (16 ∷ 1 ∷ 18 ∷ []) ∷ (8 ∷ 1 ∷ 19 ∷ []) ∷ (4 ∷ 1 ∷ 20 ∷ []) ∷
    (2 ∷ 1 ∷ 21 ∷ []) ∷ (1 ∷ 1 ∷ 29 ∷ []) ∷ (1 ∷ 1 ∷ 15 ∷ []) ∷ (1 ∷ 1 ∷ 8 ∷ []) ∷ []

-- a number for each payer of such groups
unfoldable pub rungs : (ℕ → ℕ → ℕ) → List (List ℕ) → List ℕ
rungs f [] = []
rungs f (g ∷ gs) = replicate (at g 0) (f (at g 1) (at g 2)) ++ rungs f gs

-- rounds and visits where the total is what their caps come to
unfoldable pub climbed : List ℕ → List ℕ → List ℕ
climbed ws cs = (final (whole cs) ws cs).rounds ∷ visits (whole cs) ws cs ∷ []

abbrev pub ladder : List ℕ
ladder =
    climbed
    (rungs (λ c e. thermal_weight (load c 50) c e) thermal_rungs ++ rungs (λ c e. e) wind_rungs)
    (rungs (λ c e. thermal_cap e 7777) thermal_rungs ++ rungs (λ c e. renewable_cap e 7777) wind_rungs)

-- ---- request 9, when there is no wind and everybody is low

-- a thermal row that does not offer, by its capacity, metered energy and status
abbrev pub unit_row : ℕ → ℕ → ℕ → ℕ → List ℕ
unit_row id capacity metered status = id ∷ 1 ∷ capacity ∷ metered ∷ status ∷ 0 ∷ 0 ∷ 0 ∷ 0 ∷ []

-- the settlement of a file read back: whether the average ruled, prices, total, shortfall; then what rows are paid, weigh and pay
unfoldable pub settled_low : List ℕ → List ℕ
settled_low s =
    let h = head_in (buffer_after s [] (replicate (size_of s) 255)) in
    h.averaged ∷ h.price1.0 ∷ h.price2.0 ∷ h.total.0 ∷ h.shortfall.0
    ∷ (told line.compensation s ++ told line.weight s ++ told line.paid s)

-- row 1 of interval X beside units of 200 and 150 MW, the first of them at this meter; and whatever else
abbrev pub calm_at : ℕ → ℕ → List (List ℕ) → List ℕ
calm_at need metered more = file_of 0 1300 need (offering 1 9000 0 200 400 ∷ unit_row 2 200 metered 0 ∷ unit_row 3 150 18000 0 ∷ more)

-- row 1 of interval X at a meter beside two units of 100 MW
abbrev pub three_low : ℕ → ℕ → ℕ → List ℕ
three_low e1 e2 e3 = file_of 0 1300 3000 (offering 1 e1 0 200 400 ∷ unit_row 2 100 e2 0 ∷ unit_row 3 100 e3 0 ∷ [])

-- a unit reduced for reasons of its own, one in a grid accident, one that was starting: each counts in the average
abbrev pub low_statuses : List ℕ
low_statuses =
    file_of 0 1300 9000 (offering 1 9000 0 200 400 ∷ offering 2 10500 2 200 400 ∷ unit_row 3 100 12400 3 ∷ unit_row 4 100 11301 1 ∷ [])

-- row 1 of interval X and one like it that is reduced, beside two units at half load
abbrev pub low_reduced : List ℕ
low_reduced =
    file_of 0 1300 6000 (offering 1 9000 0 200 400 ∷ offering 2 9000 2 200 400 ∷ unit_row 3 100 12500 0 ∷ unit_row 4 100 12500 0 ∷ [])

-- row 1 of interval X at 45 percent, beside a unit of 101 MW and a farm at rest
abbrev pub low_stated : ℕ → List ℕ
low_stated metered =
    stated_file at45 0 1300 3000 (offering 1 9000 0 200 400 ∷ unit_row 2 101 metered 0 ∷ wind_row 3 0 ∷ [])

-- the figures, request by request
unfoldable pub request_table : List Entry
request_table =
    -- request 1, who delivered sets the price. Interval X as it is
    entry (settled_three (metered_x 9000)) (0 ∷ 200 ∷ 400 ∷ 90000 ∷ 0 ∷ 1 ∷ 90000 ∷ 0 ∷ 0 ∷ 0 ∷ 65000 ∷ 25000 ∷ [])
    -- row 1 at half load: called, delivered nothing, so nothing is to pay; a kWh lower it sets tier 1's price and gets 20 fen
    ∷ entry (settled_three (metered_x 12500)) (0 ∷ 0 ∷ 0 ∷ 0 ∷ 0 ∷ 0 ∷ 0 ∷ 0 ∷ 0 ∷ 0 ∷ 0 ∷ 0 ∷ [])
    ∷ entry (settled_three (metered_x 12499)) (0 ∷ 200 ∷ 0 ∷ 20 ∷ 0 ∷ 0 ∷ 20 ∷ 0 ∷ 0 ∷ 0 ∷ 15 ∷ 5 ∷ [])
    -- called in both tiers, delivered in the first alone
    ∷ entry (settled_three (metered_x 11000)) (0 ∷ 200 ∷ 0 ∷ 30000 ∷ 0 ∷ 0 ∷ 30000 ∷ 0 ∷ 0 ∷ 0 ∷ 22500 ∷ 7500 ∷ [])
    -- the dearer row stayed above half load: it pays, and the prices are row 1's
    ∷ entry (settled_three (beside_x 20000 0)) (0 ∷ 200 ∷ 400 ∷ 90000 ∷ 0 ∷ 1 ∷ 90000 ∷ 0 ∷ 0 ∷ 0 ∷ 65000 ∷ 25000 ∷ [])
    -- it ran as low as row 1, but was starting or reduced: no price, no pay, and only the wind farm is left to pay
    ∷ entry (settled_three (beside_x 9000 1)) (0 ∷ 200 ∷ 400 ∷ 90000 ∷ 57500 ∷ 1 ∷ 90000 ∷ 0 ∷ 0 ∷ 0 ∷ 0 ∷ 32500 ∷ [])
    ∷ entry (settled_three (beside_x 9000 2)) (0 ∷ 200 ∷ 400 ∷ 90000 ∷ 57500 ∷ 1 ∷ 90000 ∷ 0 ∷ 0 ∷ 0 ∷ 0 ∷ 32500 ∷ [])
    -- in status 0 it delivers and sets both prices
    ∷ entry (settled_three (beside_x 9000 0)) (0 ∷ 300 ∷ 500 ∷ 250000 ∷ 217500 ∷ 1 ∷ 125000 ∷ 125000 ∷ 0 ∷ 0 ∷ 0 ∷ 32500 ∷ [])
    -- two bands at one bid, of which the first alone has energy: a need of 1 calls the second, a need of 100 both
    ∷ entry (price_two 1 ∷ price_two 100 ∷ []) (0 ∷ 200 ∷ [])
    -- request 2, leftovers go round. Three alike: 33 each, and one more for the row at position quarter modulo 3
    ∷ entry (shared_at 0 100 (1 ∷ 1 ∷ 1 ∷ [])) (34 ∷ 33 ∷ 33 ∷ [])
    ∷ entry (shared_at 1 100 (1 ∷ 1 ∷ 1 ∷ [])) (33 ∷ 34 ∷ 33 ∷ [])
    ∷ entry (shared_at 2 100 (1 ∷ 1 ∷ 1 ∷ [])) (33 ∷ 33 ∷ 34 ∷ [])
    ∷ entry (shared_at 3 100 (1 ∷ 1 ∷ 1 ∷ [])) (34 ∷ 33 ∷ 33 ∷ [])
    ∷ entry (shared_at 95 100 (1 ∷ 1 ∷ 1 ∷ [])) (33 ∷ 33 ∷ 34 ∷ [])
    -- the row whose turn it is does not share: the next one that does goes first, past the end the first; among the three that share,
    -- quarter 5 would be the last one's
    ∷ entry (shared_at 5 100 (1 ∷ 0 ∷ 1 ∷ 1 ∷ [])) (33 ∷ 0 ∷ 34 ∷ 33 ∷ [])
    ∷ entry (shared_at 3 100 (1 ∷ 1 ∷ 1 ∷ 0 ∷ [])) (34 ∷ 33 ∷ 33 ∷ 0 ∷ [])
    -- one row, and none
    ∷ entry (shared_at 95 7 (3 ∷ [])) (7 ∷ [])
    ∷ entry (settled_none 95) (0 ∷ 40 ∷ 95 ∷ 3000 ∷ [])
    -- calls: 50 each and one more; at quarter 5 position 2 is the wind farm's, and row 1 is next
    ∷ entry (tied_calls 0) (51 ∷ 50 ∷ 0 ∷ [])
    ∷ entry (tied_calls 1) (50 ∷ 51 ∷ 0 ∷ [])
    ∷ entry (tied_calls 5) (51 ∷ 50 ∷ 0 ∷ [])
    -- payments: 33 each and one more; 95 modulo 4 is 3
    ∷ entry (tied_payments 0) (0 ∷ 34 ∷ 33 ∷ 33 ∷ [])
    ∷ entry (tied_payments 2) (0 ∷ 33 ∷ 34 ∷ 33 ∷ [])
    ∷ entry (tied_payments 95) (0 ∷ 33 ∷ 33 ∷ 34 ∷ [])
    -- cuts: 66 each and two more
    ∷ entry (tied_cuts 0) (67 ∷ 67 ∷ 66 ∷ 0 ∷ [])
    ∷ entry (tied_cuts 1) (66 ∷ 67 ∷ 67 ∷ 0 ∷ [])
    ∷ entry (tied_cuts 2) (67 ∷ 66 ∷ 67 ∷ 0 ∷ [])
    -- request 4, penalty money first. Row 2 is called for 2,500 and 2,000 kWh at 200 and 400 li; 57,500 fen are short. It delivered all
    ∷ entry (settled_reduced 1300 8000) (90000 ∷ 57500 ∷ 1 ∷ 57500 ∷ 0 ∷ 32500 ∷ 0 ∷ 0 ∷ [])
    -- 1,000 kWh short in tier 2: twice 400,000 li; what the shortfall does not need goes back
    ∷ entry (settled_reduced 1300 9000) (90000 ∷ 57500 ∷ 1 ∷ 0 ∷ 0 ∷ 32500 ∷ 80000 ∷ 22500 ∷ [])
    -- 1,000 and 2,000 kWh short
    ∷ entry (settled_reduced 1300 11000) (90000 ∷ 57500 ∷ 1 ∷ 0 ∷ 0 ∷ 32500 ∷ 200000 ∷ 142500 ∷ [])
    -- delivered nothing, at half load
    ∷ entry (settled_reduced 1300 12500) (90000 ∷ 57500 ∷ 1 ∷ 0 ∷ 0 ∷ 32500 ∷ 260000 ∷ 202500 ∷ [])
    -- above half load it pays too. The wind farm is open, so nothing is short, and the penalty goes back whole
    ∷ entry (settled_reduced 1300 20000) (90000 ∷ 0 ∷ 1 ∷ 0 ∷ 65000 ∷ 25000 ∷ 260000 ∷ 260000 ∷ [])
    -- both capped: 15,000 are short, and the penalty fills them
    ∷ entry (settled_reduced 1000 20000) (90000 ∷ 15000 ∷ 2 ∷ 0 ∷ 50000 ∷ 25000 ∷ 260000 ∷ 245000 ∷ [])
    -- 60,000 are short, and a kWh costs 80 fen: penalties below, equal to and above the shortfall
    ∷ entry (settled_reduced 1200 8749) (90000 ∷ 60000 ∷ 1 ∷ 80 ∷ 0 ∷ 30000 ∷ 59920 ∷ 0 ∷ [])
    ∷ entry (settled_reduced 1200 8750) (90000 ∷ 60000 ∷ 1 ∷ 0 ∷ 0 ∷ 30000 ∷ 60000 ∷ 0 ∷ [])
    ∷ entry (settled_reduced 1200 8751) (90000 ∷ 60000 ∷ 1 ∷ 0 ∷ 0 ∷ 30000 ∷ 60080 ∷ 80 ∷ [])
    -- called for 500 kWh in tier 2 and delivered 1,000; called for 1,000 in tier 1 alone and delivered 1,500
    ∷ entry (told line.penalty (beside_at 1300 7500 9000 2)) (0 ∷ 0 ∷ 0 ∷ [])
    ∷ entry (told line.penalty (beside_at 1300 3500 11000 2)) (0 ∷ 0 ∷ 0 ∷ [])
    -- 1,000 kWh too much in tier 1 do not make up for 500 in tier 2
    ∷ entry (penalty 1500 2500 2500 2000 200 400 ∷ []) (40000 ∷ [])
    -- starting, or in a grid accident: nothing is owed
    ∷ entry (told line.penalty (beside_x 11000 1) ++ told line.penalty (beside_x 11000 3)) (0 ∷ 0 ∷ 0 ∷ 0 ∷ 0 ∷ 0 ∷ [])
    -- of 204 li 4 are dropped, of 206 li 6 make a fen; 315 li, with half a fen, are doubled before fen are made; 204 and 644 li together
    ∷ entry (penalty 2500 0 2499 0 102 0 ∷ penalty 2500 0 2499 0 103 0 ∷ penalty 2500 0 2497 0 105 0 ∷ penalty 2500 1 2499 0 102 322 ∷ [])
    (20 ∷ 21 ∷ 63 ∷ 85 ∷ [])
    -- 40 fen from each of three rows, of which 20 go back: 6 each and two more, at quarters 0, 2, 3 and 95 of five rows
    ∷ entry (tied_returns 0) (0 ∷ 7 ∷ 7 ∷ 6 ∷ 0 ∷ [])
    ∷ entry (tied_returns 2) (0 ∷ 6 ∷ 7 ∷ 7 ∷ 0 ∷ [])
    ∷ entry (tied_returns 3) (0 ∷ 7 ∷ 6 ∷ 7 ∷ 0 ∷ [])
    ∷ entry (tied_returns 95) (0 ∷ 7 ∷ 7 ∷ 6 ∷ 0 ∷ [])
    -- a penalty larger by 21 fen leaves 29 to cut in place of 50, and row 3 is cut by a fen more
    ∷ entry (told line.penalty (short_of 38) ++ told line.cut (short_of 38)) (0 ∷ 0 ∷ 0 ∷ 0 ∷ 798 ∷ 25 ∷ 25 ∷ 0 ∷ 0 ∷ 0 ∷ [])
    ∷ entry (told line.penalty (short_of 39) ++ told line.cut (short_of 39)) (0 ∷ 0 ∷ 0 ∷ 0 ∷ 819 ∷ 14 ∷ 14 ∷ 1 ∷ 0 ∷ 0 ∷ [])
    -- request 6, terms by date. The baseline of 333, 1 and 7 MW at 41, 45, 49 and 50 percent: half a kWh is dropped
    ∷ entry (load 333 41 ∷ load 333 45 ∷ load 333 49 ∷ load 333 50 ∷ []) (34132 ∷ 37462 ∷ 40792 ∷ 41625 ∷ [])
    ∷ entry (load 1 41 ∷ load 1 45 ∷ load 1 49 ∷ load 1 50 ∷ []) (102 ∷ 112 ∷ 122 ∷ 125 ∷ [])
    ∷ entry (load 7 41 ∷ load 7 45 ∷ load 7 49 ∷ load 7 50 ∷ []) (717 ∷ 787 ∷ 857 ∷ 875 ∷ [])
    -- interval X at 45 percent: row 1 is paid for 1,250 and 1,000 kWh, row 2 weighs 3,750 + 2 × 2,500 + 3 × 2,500
    ∷ entry (settled_three (stated_file at45 0 1300 3000 rows_x)) (0 ∷ 200 ∷ 400 ∷ 65000 ∷ 0 ∷ 0 ∷ 65000 ∷ 0 ∷ 0 ∷ 0 ∷ 49706 ∷ 15294 ∷ [])
    ∷ entry (told line.weight (stated_file at45 0 1300 3000 rows_x)) (0 ∷ 16250 ∷ 5000 ∷ [])
    -- a row of 12,000 kWh, between 45 percent and half load: paid for 500 kWh by document 01's terms, a payer of 750 kWh by the others
    ∷ entry (settled_three (file_of 0 1300 9000 rows_between)) (0 ∷ 200 ∷ 400 ∷ 100000 ∷ 67500 ∷ 1 ∷ 90000 ∷ 10000 ∷ 0 ∷ 0 ∷ 0 ∷ 32500 ∷ [])
    ∷ entry (settled_three (stated_file at45 0 1300 9000 rows_between)) (0 ∷ 200 ∷ 400 ∷ 65000 ∷ 0 ∷ 1 ∷ 65000 ∷ 0 ∷ 0 ∷ 0 ∷ 32500 ∷ 32500 ∷ [])
    ∷ entry (told line.called1 (stated_file at45 0 1300 9000 rows_between) ++ told line.called2 (stated_file at45 0 1300 9000 rows_between))
    (1250 ∷ 1250 ∷ 0 ∷ 2000 ∷ 2000 ∷ 0 ∷ [])
    -- document 01's terms, stated: interval X as it is, but for the head
    ∷ entry (settled_three (stated_file at01 0 1300 3000 rows_x)) (0 ∷ 200 ∷ 400 ∷ 90000 ∷ 0 ∷ 1 ∷ 90000 ∷ 0 ∷ 0 ∷ 0 ∷ 65000 ∷ 25000 ∷ [])
    -- the head says which terms ruled; a statement with terms has 9 bytes more, and a buffer a byte short of that is refused
    ∷ entry (ruled (stated_file at45 0 1300 3000 rows_x) ++ ruled (interval_x 1300)) (45 ∷ 150 ∷ 330 ∷ 330 ∷ 760 ∷ 50 ∷ 100 ∷ 320 ∷ 320 ∷ 750 ∷ [])
    ∷ entry (answered 175 (stated_file at45 0 1300 3000 rows_x) ++ answered 174 (stated_file at45 0 1300 3000 rows_x)) (0 ∷ 175 ∷ 11 ∷ 0 ∷ [])
    -- 14: percent 40 and 51, first limit 0, limits equal or falling in a tier, tier 2 from below tier 1's end, last limit above 1,000
    ∷ entry
    (terms_answer 1 (40 ∷ 1 ∷ 2 ∷ 3 ∷ 4 ∷ []) ∷ terms_answer 1 (51 ∷ 1 ∷ 2 ∷ 3 ∷ 4 ∷ []) ∷ terms_answer 1 (45 ∷ 0 ∷ 2 ∷ 3 ∷ 4 ∷ [])
    ∷ terms_answer 1 (45 ∷ 2 ∷ 2 ∷ 3 ∷ 4 ∷ []) ∷ terms_answer 1 (45 ∷ 2 ∷ 1 ∷ 3 ∷ 4 ∷ []) ∷ terms_answer 1 (45 ∷ 1 ∷ 3 ∷ 2 ∷ 4 ∷ [])
    ∷ terms_answer 1 (45 ∷ 1 ∷ 2 ∷ 3 ∷ 3 ∷ []) ∷ terms_answer 1 (45 ∷ 1 ∷ 2 ∷ 4 ∷ 3 ∷ []) ∷ terms_answer 1 (45 ∷ 1 ∷ 2 ∷ 3 ∷ 1001 ∷ []) ∷ [])
    (14 ∷ 14 ∷ 14 ∷ 14 ∷ 14 ∷ 14 ∷ 14 ∷ 14 ∷ 14 ∷ [])
    -- none of it at the edges: 41 and 50 percent, 1 to 1,000, limits equal in the middle
    ∷ entry
    (terms_answer 1 (41 ∷ 1 ∷ 2 ∷ 2 ∷ 3 ∷ []) ∷ terms_answer 1 (50 ∷ 1 ∷ 2 ∷ 2 ∷ 3 ∷ []) ∷ terms_answer 1 (45 ∷ 997 ∷ 998 ∷ 999 ∷ 1000 ∷ []) ∷ [])
    (0 ∷ 0 ∷ 0 ∷ [])
    -- 3 comes before 14, and 14 before 4
    ∷ entry (terms_answer 0 (40 ∷ 1 ∷ 2 ∷ 3 ∷ 4 ∷ []) ∷ []) (3 ∷ [])
    ∷ entry (answered 99 (stated_file (40 ∷ 1 ∷ 2 ∷ 3 ∷ 4 ∷ []) 0 1 0 [] ++ (0 ∷ [])) ++ answered 99 (stated_file at45 0 1 0 [] ++ (0 ∷ [])))
    (14 ∷ 0 ∷ 4 ∷ 0 ∷ [])
    -- a PG file of 14 and of 23 bytes is too short, whatever stands in it; one of 24, zeros behind its mark, has no tariff; PF is no mark
    ∷ entry (answered 99 (80 ∷ 71 ∷ replicate 12 0) ++ answered 99 (80 ∷ 71 ∷ replicate 21 0)) (1 ∷ 0 ∷ 1 ∷ 0 ∷ [])
    ∷ entry (answered 99 (80 ∷ 71 ∷ replicate 22 0) ++ answered 99 (80 ∷ 70 ∷ replicate 21 0)) (3 ∷ 0 ∷ 2 ∷ 0 ∷ [])
    -- a row of 1 MW: its minimum at 112 kWh and above, bids at the limits and past each of them
    ∷ entry (row_answer 112 330 330 ++ row_answer 113 330 330) (0 ∷ 91 ∷ 6 ∷ 1 ∷ [])
    ∷ entry
    (row_answer 0 150 760 ++ row_answer 0 149 760 ++ row_answer 0 331 760 ++ row_answer 0 150 329 ++ row_answer 0 150 761)
    (0 ∷ 91 ∷ 6 ∷ 1 ∷ 6 ∷ 1 ∷ 6 ∷ 1 ∷ 6 ∷ 1 ∷ [])
    -- request 8, how much work a quarter can take. P1 to P5: two payers are looked at; once row 2 has closed, the wind farm again
    ∷ entry (visited (interval_x 3545)) (0 ∷ 2 ∷ 0 ∷ 0 ∷ 0 ∷ [])
    ∷ entry (visited (interval_x 1350)) (1 ∷ 3 ∷ 0 ∷ 1 ∷ 0 ∷ [])
    ∷ entry (visited (interval_x 1300)) (1 ∷ 3 ∷ 0 ∷ 1 ∷ 0 ∷ [])
    ∷ entry (visited (interval_x 1200)) (2 ∷ 3 ∷ 0 ∷ 1 ∷ 2 ∷ [])
    ∷ entry (visited (interval_x 1000)) (2 ∷ 3 ∷ 0 ∷ 1 ∷ 2 ∷ [])
    -- nobody is open: no rows; only a row that receives; and one at half load, which weighs nothing
    ∷ entry (visited (file_of 0 1300 3000 [])) (0 ∷ 0 ∷ [])
    ∷ entry (visited (file_of 0 1300 3000 (offering 1 9000 0 200 400 ∷ down_row 2 ∷ []))) (0 ∷ 0 ∷ 0 ∷ 0 ∷ [])
    ∷ entry (visited (file_of 0 1300 3000 (offering 1 9000 0 200 400 ∷ thermal_row 2 12500 ∷ down_row 3 ∷ []))) (0 ∷ 0 ∷ 0 ∷ 0 ∷ 0 ∷ [])
    -- three payers: nobody ever closes, row 2's cap being 75,006; it closes at 74,937, and two are looked at once more
    ∷ entry (visited (three_payers 1091)) (0 ∷ 3 ∷ 0 ∷ 0 ∷ 0 ∷ 0 ∷ [])
    ∷ entry (visited (three_payers 1090)) (1 ∷ 5 ∷ 0 ∷ 1 ∷ 0 ∷ 0 ∷ [])
    -- each in a round of its own, the last left open or closed as well: 3 + 2 + 1, as many as can be
    ∷ entry (visited (three_payers 700)) (2 ∷ 6 ∷ 0 ∷ 1 ∷ 2 ∷ 0 ∷ [])
    ∷ entry (visited (three_payers 600)) (3 ∷ 6 ∷ 0 ∷ 1 ∷ 2 ∷ 3 ∷ [])
    -- two at once in the second round, two at once in the first, all at once
    ∷ entry (visited (three_payers 401)) (2 ∷ 5 ∷ 0 ∷ 1 ∷ 2 ∷ 2 ∷ [])
    ∷ entry (visited (three_payers 400)) (2 ∷ 4 ∷ 0 ∷ 1 ∷ 1 ∷ 2 ∷ [])
    ∷ entry (visited (three_payers 100)) (1 ∷ 3 ∷ 0 ∷ 1 ∷ 1 ∷ 1 ∷ [])
    -- nothing is to pay: caps of 0 are reached all the same, both at once, and one of a fen is not
    ∷ entry (visited (file_of 0 1 0 (wind_row 1 199 ∷ wind_row 2 199 ∷ wind_row 3 200 ∷ []))) (1 ∷ 4 ∷ 1 ∷ 1 ∷ 0 ∷ [])
    -- the ladder of 27 rounds: 14 payers looked at once, 23 twice, and so on to the last, looked at in all 27
    ∷ entry ladder (27 ∷ 1960 ∷ [])
    -- request 9, no wind and everybody low. 52,000 kWh over 450 MW: 11,555, 23,111 and 17,333; row 2 is just at half load
    ∷ entry (settled_low (calm_at 3000 25000 []))
    (1 ∷ 200 ∷ 400 ∷ 71100 ∷ 0 ∷ 71100 ∷ 0 ∷ 0 ∷ 0 ∷ 1889 ∷ 667 ∷ 0 ∷ 52546 ∷ 18554 ∷ [])
    -- the bands stay those of half load
    ∷ entry (told line.called1 (calm_at 3000 25000 []) ++ told line.called2 (calm_at 3000 25000 [])) (2500 ∷ 0 ∷ 0 ∷ 500 ∷ 0 ∷ 0 ∷ [])
    -- with a wind farm at 0; at 1 the baseline rules
    ∷ entry (settled_low (calm_at 3000 25000 (wind_row 4 0 ∷ [])))
    (1 ∷ 200 ∷ 400 ∷ 71100 ∷ 0 ∷ 71100 ∷ 0 ∷ 0 ∷ 0 ∷ 0 ∷ 1889 ∷ 667 ∷ 0 ∷ 0 ∷ 52546 ∷ 18554 ∷ 0 ∷ [])
    ∷ entry (settled_low (calm_at 3000 25000 (wind_row 4 1 ∷ [])))
    (0 ∷ 200 ∷ 400 ∷ 90000 ∷ 89994 ∷ 90000 ∷ 0 ∷ 0 ∷ 0 ∷ 0 ∷ 0 ∷ 0 ∷ 1 ∷ 0 ∷ 0 ∷ 0 ∷ 6 ∷ [])
    -- a unit a kWh above half load; nothing needed; no thermal row
    ∷ entry (settled_low (calm_at 3000 25001 [])) (0 ∷ 200 ∷ 400 ∷ 90000 ∷ 8747 ∷ 90000 ∷ 0 ∷ 0 ∷ 0 ∷ 1 ∷ 0 ∷ 0 ∷ 81253 ∷ 0 ∷ [])
    ∷ entry (settled_low (calm_at 0 25000 [])) (0 ∷ 0 ∷ 0 ∷ 0 ∷ 0 ∷ 0 ∷ 0 ∷ 0 ∷ 0 ∷ 0 ∷ 0 ∷ 0 ∷ 0 ∷ 0 ∷ [])
    ∷ entry (settled_low (file_of 0 1300 3000 (wind_row 1 0 ∷ []))) (0 ∷ 0 ∷ 0 ∷ 0 ∷ 0 ∷ 0 ∷ 0 ∷ 0 ∷ [])
    -- an average of 8,333, below 40 percent: tier 1 pays nobody, tier 2 from there down; row 3 closes
    ∷ entry (settled_low (three_low 7000 8500 9500)) (1 ∷ 0 ∷ 400 ∷ 53320 ∷ 0 ∷ 53320 ∷ 0 ∷ 0 ∷ 0 ∷ 167 ∷ 1167 ∷ 0 ∷ 22445 ∷ 30875 ∷ [])
    -- an average of 10,000, at which row 3 is
    ∷ entry (settled_low (three_low 9000 11000 10000)) (1 ∷ 0 ∷ 400 ∷ 40000 ∷ 4250 ∷ 40000 ∷ 0 ∷ 0 ∷ 0 ∷ 1000 ∷ 0 ∷ 0 ∷ 35750 ∷ 0 ∷ [])
    -- all at half load: nobody is below the average, and nobody weighs
    ∷ entry (settled_low (three_low 12500 12500 12500)) (1 ∷ 0 ∷ 0 ∷ 0 ∷ 0 ∷ 0 ∷ 0 ∷ 0 ∷ 0 ∷ 0 ∷ 0 ∷ 0 ∷ 0 ∷ 0 ∷ [])
    -- an average of 10,800 by units of every status. Row 3 is above it and does not pay; row 2 owes for 2,200 and 2,000 kWh
    ∷ entry (settled_low low_statuses) (1 ∷ 200 ∷ 400 ∷ 56000 ∷ 19272 ∷ 56000 ∷ 0 ∷ 0 ∷ 0 ∷ 0 ∷ 0 ∷ 0 ∷ 501 ∷ 0 ∷ 0 ∷ 0 ∷ 36728 ∷ [])
    ∷ entry (told line.penalty low_statuses ++ told line.returned low_statuses) (0 ∷ 248000 ∷ 0 ∷ 0 ∷ 0 ∷ 228728 ∷ 0 ∷ 0 ∷ [])
    -- called for 2,500 and 500 kWh, delivered 750 and 1,000 from an average of 10,750: too much in tier 2 does not make up for tier 1
    ∷ entry (settled_low low_reduced) (1 ∷ 200 ∷ 400 ∷ 55000 ∷ 0 ∷ 55000 ∷ 0 ∷ 0 ∷ 0 ∷ 0 ∷ 0 ∷ 1750 ∷ 1750 ∷ 0 ∷ 0 ∷ 27500 ∷ 27500 ∷ [])
    ∷ entry (told line.penalty low_reduced ++ told line.returned low_reduced) (0 ∷ 70000 ∷ 0 ∷ 0 ∷ 0 ∷ 70000 ∷ 0 ∷ 0 ∷ [])
    -- at 45 percent: the unit of 101 MW at its baseline, 11,362 and a half, cut; and a kWh above it
    ∷ entry (settled_low (low_stated 11362)) (1 ∷ 200 ∷ 400 ∷ 42600 ∷ 5674 ∷ 42600 ∷ 0 ∷ 0 ∷ 0 ∷ 1131 ∷ 0 ∷ 0 ∷ 36926 ∷ 0 ∷ [])
    ∷ entry (settled_low (low_stated 11363)) (0 ∷ 200 ∷ 400 ∷ 65000 ∷ 28071 ∷ 65000 ∷ 0 ∷ 0 ∷ 0 ∷ 1 ∷ 0 ∷ 0 ∷ 36929 ∷ 0 ∷ [])
    ∷ []
