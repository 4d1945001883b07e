-- The worked figures P1 to P11 of document 01 as one table: what the definitions work out beside what the paper says.
-- P1 to P5 go the whole way, from the bytes of interval X through the settlement to the statement's bytes read back.
use Rattle.std.specs.Prelude.{ℕ, ◌/◌, ◌%◌, Bool, true, false, ◌&&◌, List, [], ◌∷◌, ◌++◌, eqb, replicate}
use Rattle.units.specs.Measure.{to_fen, thermal_cap}
use Rattle.units.specs.Load.{load}
use Rattle.share.specs.Share.{shares}
use Rattle.merit.specs.Band.{one, Bands}
use Rattle.merit.specs.Call.{calls}
use Rattle.duties.specs.Duty.{thermal_weight}
use Rattle.records.specs.Sheet.{cell}
use Rattle.statement.specs.Statement.{head_in}
use Rattle.statement.specs.Line as line
use Rattle.files.specs.Verdict.{number_of, value_of}
use Rattle.settle.specs.Answer.{answer_of, buffer_after}

-- interval X at a tariff, byte by byte: a head and three rows of 100 MW
unfoldable pub interval_x : ℕ → List ℕ
interval_x tariff =
    (80 ∷ 72 ∷ 0 ∷ 0 ∷ 0 ∷ 0 ∷ 0 ∷ (tariff % 256) ∷ (tariff / 256) ∷ 184 ∷ 11 ∷ 0 ∷ 0 ∷ 3 ∷ 0 ∷ [])
    ++ (80 ∷ 82 ∷ 1 ∷ 0 ∷ 1 ∷ 100 ∷ 0 ∷ 40 ∷ 35 ∷ 0 ∷ 0 ∷ 0 ∷ 1 ∷ 64 ∷ 31 ∷ 0 ∷ 0 ∷ 200 ∷ 0 ∷ 144 ∷ 1 ∷ [])
    ++ (80 ∷ 82 ∷ 2 ∷ 0 ∷ 1 ∷ 100 ∷ 0 ∷ 32 ∷ 78 ∷ 0 ∷ 0 ∷ 0 ∷ 0 ∷ 0 ∷ 0 ∷ 0 ∷ 0 ∷ 0 ∷ 0 ∷ 0 ∷ 0 ∷ [])
    ++ (80 ∷ 82 ∷ 3 ∷ 0 ∷ 2 ∷ 100 ∷ 0 ∷ 136 ∷ 19 ∷ 0 ∷ 0 ∷ 0 ∷ 0 ∷ 0 ∷ 0 ∷ 0 ∷ 0 ∷ 0 ∷ 0 ∷ 0 ∷ 0 ∷ [])

-- its settlement read back: number, count of bytes, total, what rows 2 and 3 pay, rounds, shortfall
unfoldable pub settled_x : ℕ → List ℕ
settled_x tariff =
    let s = interval_x tariff in
    let out = buffer_after s [] (replicate 166 255) in
    let h = head_in out in
    number_of (answer_of s [] 166) ∷ value_of (answer_of s [] 166) ∷ h.total.0 ∷ cell line.paid out 1 ∷ cell line.paid out 2
    ∷ h.rounds ∷ h.shortfall.0 ∷ []

-- one line of the table: what is worked out, and what the paper says
pub record Entry : Type 0 where
  pub worked : List ℕ
  pub paper : List ℕ

abbrev pub entry : List ℕ → List ℕ → Entry
entry w p = record { worked = w; paper = p }

abbrev pub weight100 : ℕ → ℕ
weight100 e = thermal_weight (load 100 50) 100 e

-- two bands of tier 1 at one bid
abbrev pub two_bands : Bands
two_bands =
    record { widths1 = 2500 ∷ 5000 ∷ []; widths2 = 0 ∷ 0 ∷ []; bids1 = 200 ∷ 200 ∷ []; bids2 = 400 ∷ 400 ∷ [] }

-- P1 to P11 in order
unfoldable pub figures_table : List Entry
figures_table =
    entry (settled_x 3545) (0 ∷ 166 ∷ 90000 ∷ 67500 ∷ 22500 ∷ 0 ∷ 0 ∷ [])
    ∷ entry (settled_x 1350) (0 ∷ 166 ∷ 90000 ∷ 67500 ∷ 22500 ∷ 1 ∷ 0 ∷ [])
    ∷ entry (settled_x 1300) (0 ∷ 166 ∷ 90000 ∷ 65000 ∷ 25000 ∷ 1 ∷ 0 ∷ [])
    ∷ entry (settled_x 1200) (0 ∷ 166 ∷ 90000 ∷ 60000 ∷ 30000 ∷ 2 ∷ 0 ∷ [])
    ∷ entry (settled_x 1000) (0 ∷ 166 ∷ 90000 ∷ 50000 ∷ 25000 ∷ 2 ∷ 15000 ∷ [])
    ∷ entry
    (weight100 12500 ∷ weight100 15000 ∷ weight100 15001 ∷ weight100 17500 ∷ weight100 17501 ∷ weight100 27500 ∷ [])
    (0 ∷ 2500 ∷ 2502 ∷ 7500 ∷ 7503 ∷ 37500 ∷ [])
    ∷ entry (shares 100 (1 ∷ 1 ∷ 1 ∷ []) 0) (34 ∷ 33 ∷ 33 ∷ [])
    ∷ entry (shares 10 (3 ∷ 3 ∷ 1 ∷ []) 0) (4 ∷ 4 ∷ 2 ∷ [])
    ∷ entry (calls 100 two_bands 0 one) (33 ∷ 67 ∷ [])
    ∷ entry (thermal_cap 1 399 ∷ thermal_cap 1 400 ∷ []) (0 ∷ 1 ∷ [])
    ∷ entry (to_fen 315 ∷ to_fen 314 ∷ []) (32 ∷ 31 ∷ [])
    ∷ []

-- two lists of numbers are the same
unfoldable pub same : List ℕ → List ℕ → Bool
same [] [] = true
same [] (y ∷ ys) = false
same (x ∷ xs) [] = false
same (x ∷ xs) (y ∷ ys) = eqb x y && same xs ys

-- the test of a whole table: every line works out to what the paper says
unfoldable pub all_right : List Entry → Bool
all_right [] = true
all_right (e ∷ es) = same e.worked e.paper && all_right es
