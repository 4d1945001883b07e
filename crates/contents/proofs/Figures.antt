-- Interval X of document 01 (Checked figures) at tariff 1300, as a file PH of 78 bytes and as one PG of 87 that states 45 percent and the
-- limits 150, 330, 330, 760, each as bytes and as contents: the definitions run on numbers.
--   x-accepted, g-accepted    the file is accepted
--   x-said, g-said    its contents make that file
--   x-read, g-read    and the file says these contents
--   x-refused     with rows 2 and 3 exchanged the writer gives 7 at row 3; with a buffer one byte short, 11 at place 0
--   x-again       rewritten into 80 bytes it is 78 bytes and leaves two; into 77, 11; without its last byte it is refused with 4, room or not
--   g-faults      with tier 1's highest bid above tier 2's lowest the file is refused with 14, after 3 and before 4; with less than its head, with 1
--   g-refused     those contents the writer refuses with 14, after 3 and before 6; 6 is by the terms that are stated; 11 by the longer head
--   g-again       rewritten into 89 bytes it is 87 bytes and leaves two; into 86, 11; with the wrong limit it is refused with 14, room or not
use mathlib.Core.Path.{◌≡◌, refl}
use mathlib.Core.Bool.{true, false}
use mathlib.Core.List.{List, [], ◌∷◌, ◌++◌}
use Prim.Native.Nat.{ℕ}
use lib.ListN.{take}
use Rattle.records.specs.Buffer.{put}
use Rattle.records.specs.Number.{number_at, number_bytes}
use Rattle.columns.specs.Table.{table}
use Rattle.records.specs.Fields.{fields_bytes}
use Rattle.records.specs.Record.{fields_at, record_at, record_bytes, records_bytes}
use Rattle.files.specs.Layout.{head_at, row_at}
use Rattle.files.specs.Terms.{terms01}
use Rattle.files.specs.Form.{terms_at, terms_bytes, known, states, terms_of, rows_from, head_bytes}
use Rattle.columns.specs.Checks.{refusal, none, first_refusal, row_by_row, previous}
use Rattle.files.specs.Range.{head_tests, head_ok, terms_tests, terms_ok, status_ok, idle_tests, not_offering, offer_tests, offering, row_tests, row_ok}
use Rattle.files.specs.Order.{front_checks, head_checks, row_checks, row_checks_at, row_checks_of, interval_order, interval_fault}
use Rattle.files.specs.declared.Form.{Form}
use Rattle.files.specs.declared.Row.{Row}
use Rattle.contents.specs.Content.{zero_row, contents_of, reading_of, contents_bytes, row_checks_in, writer_order, written_of, written_buffer}
use Rattle.contents.specs.Content.{rewritten_of, rewritten_buffer}
use Rattle.files.specs.Verdict.{Accepted, Refused}
use Rattle.contents.specs.declared.Contents.{Contents}

-- the rows, and the file that states no terms
abbrev rows : List ℕ
rows =
    80 ∷ 82 ∷ 1 ∷ 0 ∷ 1 ∷ 100 ∷ 0 ∷ 40 ∷ 35 ∷ 0 ∷ 0 ∷ 0 ∷ 1 ∷ 64 ∷ 31 ∷ 0 ∷ 0 ∷ 200 ∷ 0 ∷ 144 ∷ 1
    ∷ 80 ∷ 82 ∷ 2 ∷ 0 ∷ 1 ∷ 100 ∷ 0 ∷ 32 ∷ 78 ∷ 0 ∷ 0 ∷ 0 ∷ 0 ∷ 0 ∷ 0 ∷ 0 ∷ 0 ∷ 0 ∷ 0 ∷ 0 ∷ 0
    ∷ 80 ∷ 82 ∷ 3 ∷ 0 ∷ 2 ∷ 100 ∷ 0 ∷ 136 ∷ 19 ∷ 0 ∷ 0 ∷ 0 ∷ 0 ∷ 0 ∷ 0 ∷ 0 ∷ 0 ∷ 0 ∷ 0 ∷ 0 ∷ 0 ∷ []

abbrev file : List ℕ
file = 80 ∷ 72 ∷ 0 ∷ 0 ∷ 0 ∷ 0 ∷ 0 ∷ 20 ∷ 5 ∷ 184 ∷ 11 ∷ 0 ∷ 0 ∷ 3 ∷ 0 ∷ rows

-- the file that states terms, by the two bytes of its tariff and the low byte of tier 1's highest bid, which is 256 more
abbrev stating : ℕ → ℕ → ℕ → List ℕ
stating low high limit =
    80 ∷ 71 ∷ 0 ∷ 0 ∷ 0 ∷ 0 ∷ 0 ∷ low ∷ high ∷ 184 ∷ 11 ∷ 0 ∷ 0 ∷ 3 ∷ 0
    ∷ 45 ∷ 150 ∷ 0 ∷ limit ∷ 1 ∷ 74 ∷ 1 ∷ 248 ∷ 2 ∷ rows

abbrev stated : List ℕ
stated = stating 20 5 74

-- a row of 100 MW and status 0 that offers nothing
abbrev plain : ℕ → ℕ → ℕ → Row
plain id kind metered =
    record {
      id = id;
      kind = kind;
      capacity = 100;
      metered = record { 0 = metered };
      status = 0;
      offered = 0;
      minimum = record { 0 = 0 };
      bid1 = record { 0 = 0 };
      bid2 = record { 0 = 0 };
    }

-- row 1, by its bid in tier 1
abbrev first : ℕ → Row
first bid =
    record {
      id = 1;
      kind = 1;
      capacity = 100;
      metered = record { 0 = 9000 };
      status = 0;
      offered = 1;
      minimum = record { 0 = 8000 };
      bid1 = record { 0 = bid };
      bid2 = record { 0 = 400 };
    }

abbrev three_rows : List Row
three_rows = first 200 ∷ plain 2 1 20000 ∷ plain 3 2 5000 ∷ []

-- the contents, by their form, their tariff and their rows
abbrev said : Form → ℕ → List Row → Contents
said form tariff rows =
    record {
      form = form;
      head = record { day = 0; quarter = 0; tariff = record { 0 = tariff }; need = record { 0 = 3000 }; rows = 3 };
      rows = rows ++ table 253 (λ i. zero_row);
    }

abbrev form_h : Form
form_h = record { stated = false; terms = terms01 }

-- the form of the other file, by tier 1's highest bid
abbrev form_g : ℕ → Form
form_g highest =
    record {
      stated = true;
      terms =
          record {
            percent = 45;
            lowest1 = record { 0 = 150 };
            highest1 = record { 0 = highest };
            lowest2 = record { 0 = 330 };
            highest2 = record { 0 = 760 };
          };
    }

pub x-accepted : interval_fault file ≡ none
unfolding interval_order head_checks front_checks known states rows_from terms_of terms_ok terms_tests row_by_row row_checks_of row_checks_at row_checks
    previous first_refusal head_at row_at record_at fields_at number_at head_ok head_tests row_ok row_tests status_ok not_offering idle_tests offering offer_tests
x-accepted = refl

pub x-said : contents_bytes (said form_h 1300 three_rows) ≡ file
unfolding contents_bytes head_bytes records_bytes record_bytes fields_bytes number_bytes table
x-said = refl

pub x-read : contents_of file ≡ said form_h 1300 three_rows
unfolding contents_of states rows_from terms_of head_at row_at record_at fields_at number_at table
x-read = refl

pub x-refused :
    (written_of (said form_h 1300 (first 200 ∷ plain 3 2 5000 ∷ plain 2 1 20000 ∷ [])) 78 ≡ Refused 7 3)
    × (written_of (said form_h 1300 three_rows) 77 ≡ Refused 11 0)
unfolding written_of writer_order row_by_row row_checks_in row_checks previous first_refusal
    head_ok head_tests terms_ok terms_tests row_ok row_tests status_ok not_offering idle_tests offering offer_tests table
x-refused = (refl, refl)

pub x-again :
    (rewritten_of file 80 ≡ Accepted 78)
    × (rewritten_buffer file (table 80 (λ i. 170)) ≡ file ++ (170 ∷ 170 ∷ []))
    × (rewritten_of file 77 ≡ Refused 11 0)
    × (rewritten_buffer file (table 77 (λ i. 170)) ≡ table 77 (λ i. 170))
    × (rewritten_of (take 77 file) 0 ≡ Refused 4 0)
    × (rewritten_of (take 77 file) 78 ≡ Refused 4 0)
unfolding rewritten_of rewritten_buffer reading_of written_of written_buffer writer_order interval_order head_checks front_checks known states rows_from
    row_by_row row_checks_of row_checks_at row_checks_in row_checks previous first_refusal terms_of terms_ok terms_tests head_at row_at record_at fields_at
    number_at head_ok head_tests row_ok row_tests status_ok not_offering idle_tests offering offer_tests contents_of contents_bytes head_bytes records_bytes
    record_bytes fields_bytes number_bytes put table
x-again = (refl, refl, refl, refl, refl, refl)

pub g-accepted : interval_fault stated ≡ none
unfolding interval_order head_checks front_checks known states rows_from terms_of terms_at terms_ok terms_tests row_by_row row_checks_of row_checks_at row_checks
    previous first_refusal head_at row_at record_at fields_at number_at head_ok head_tests row_ok row_tests status_ok not_offering idle_tests offering offer_tests
g-accepted = refl

pub g-said : contents_bytes (said (form_g 330) 1300 three_rows) ≡ stated
unfolding contents_bytes head_bytes terms_bytes records_bytes record_bytes fields_bytes number_bytes table
g-said = refl

pub g-read : contents_of stated ≡ said (form_g 330) 1300 three_rows
unfolding contents_of states rows_from terms_of terms_at head_at row_at record_at fields_at number_at table
g-read = refl

pub g-faults :
    (interval_fault (stating 20 5 75) ≡ refusal true 14 0)
    × (interval_fault (stating 0 0 75) ≡ refusal true 3 0)
    × (interval_fault (take 86 (stating 20 5 75)) ≡ refusal true 14 0)
    × (interval_fault (take 86 stated) ≡ refusal true 4 0)
    × (interval_fault (take 23 stated) ≡ refusal true 1 0)
unfolding interval_order head_checks front_checks known states rows_from terms_of terms_at terms_ok terms_tests row_by_row first_refusal
    head_at record_at fields_at number_at head_ok head_tests
g-faults = (refl, refl, refl, refl, refl)

pub g-refused :
    (written_of (said (form_g 331) 1300 three_rows) 87 ≡ Refused 14 0)
    × (written_of (said (form_g 331) 0 three_rows) 87 ≡ Refused 3 0)
    × (written_of (said (form_g 331) 1300 (first 120 ∷ plain 2 1 20000 ∷ plain 3 2 5000 ∷ [])) 87 ≡ Refused 14 0)
    × (written_of (said (form_g 330) 1300 (first 120 ∷ plain 2 1 20000 ∷ plain 3 2 5000 ∷ [])) 87 ≡ Refused 6 1)
    × (written_of (said (form_g 330) 1300 three_rows) 86 ≡ Refused 11 0)
unfolding written_of writer_order row_by_row row_checks_in row_checks previous first_refusal
    head_ok head_tests terms_ok terms_tests row_ok row_tests status_ok not_offering idle_tests offering offer_tests table
g-refused = (refl, refl, refl, refl, refl)

pub g-again :
    (rewritten_of stated 89 ≡ Accepted 87)
    × (rewritten_buffer stated (table 89 (λ i. 170)) ≡ stated ++ (170 ∷ 170 ∷ []))
    × (rewritten_of stated 86 ≡ Refused 11 0)
    × (rewritten_buffer stated (table 86 (λ i. 170)) ≡ table 86 (λ i. 170))
    × (rewritten_of (stating 20 5 75) 0 ≡ Refused 14 0)
    × (rewritten_of (stating 20 5 75) 87 ≡ Refused 14 0)
unfolding rewritten_of rewritten_buffer reading_of written_of written_buffer writer_order interval_order head_checks front_checks known states rows_from
    row_by_row row_checks_of row_checks_at row_checks_in row_checks previous first_refusal terms_of terms_at terms_ok terms_tests head_at row_at record_at fields_at
    number_at head_ok head_tests row_ok row_tests status_ok not_offering idle_tests offering offer_tests contents_of contents_bytes head_bytes terms_bytes records_bytes
    record_bytes fields_bytes number_bytes put table
g-again = (refl, refl, refl, refl, refl, refl)
