-- The contents of an interval file, and the file that contents make (01, The files; 02, request 6; the writer's refusals 3, 14, 6, 7, 11).
use Rattle.std.specs.Prelude.{ℕ, ◌+◌, ◌*◌, cond, not, false, List, [], ◌∷◌, ◌++◌, ltb, length, get_or}
use Rattle.columns.specs.Table.{table}
use Rattle.columns.specs.Test.{Check}
use Rattle.columns.specs.Checks.{Refusal, refusal, first_refusal, row_by_row, previous, answer_by}
use Rattle.records.specs.Buffer.{put}
use Rattle.records.specs.Record.{records_bytes}
use Rattle.records.specs.Sheet.{sheet}
use Rattle.files.specs.Layout.{letter_r, row_widths, row_size, head_at, row_at, row_fields, row_count}
use Rattle.files.specs.Form.{ruling, form_of, start_of, rows_from, row_start, head_bytes}
use Rattle.files.specs.Range.{head_ok, terms_ok}
use Rattle.files.specs.Order.{row_checks, interval_fault, verdict}
use Rattle.files.specs.Verdict.{Verdict, Accepted, Refused}
use Rattle.files.specs.declared.Form.{Form}
use Rattle.files.specs.declared.Head.{Head}
use Rattle.files.specs.declared.Row.{Row}
use Rattle.files.specs.declared.Terms.{Terms}
use Rattle.contents.specs.declared.Contents.{Contents}

-- the row and the contents that are all zero
abbrev pub zero_row : Row
zero_row =
    record {
      id = 0;
      kind = 0;
      capacity = 0;
      metered = record { 0 = 0 };
      status = 0;
      offered = 0;
      minimum = record { 0 = 0 };
      bid1 = record { 0 = 0 };
      bid2 = record { 0 = 0 };
    }

abbrev pub zero_head : Head
zero_head = record { day = 0; quarter = 0; tariff = record { 0 = 0 }; need = record { 0 = 0 }; rows = 0 }

-- a form that states nothing
abbrev pub zero_form : Form
zero_form =
    record {
      stated = false;
      terms =
          record {
            percent = 0;
            lowest1 = record { 0 = 0 };
            highest1 = record { 0 = 0 };
            lowest2 = record { 0 = 0 };
            highest2 = record { 0 = 0 };
          };
    }

unfoldable pub zero_contents : Contents
zero_contents = record { form = zero_form; head = zero_head; rows = table 256 (λ i. zero_row) }

-- what an accepted interval file says: past its rows there are zero rows
unfoldable pub contents_of : List ℕ → Contents
contents_of s =
    record {
      form = form_of s;
      head = head_at s;
      rows = table 256 (λ i. cond (ltb i (row_count s)) (row_at s (row_start s i)) zero_row);
    }

-- what a reader answers: a verdict, and contents beside it
pub record Reading : Type 0 where
  pub verdict : Verdict
  pub contents : Contents

-- the reader's answer, on any bytes: the file's verdict, and zero contents beside a refusal
unfoldable pub reading_of : List ℕ → Reading
reading_of s =
    let f = interval_fault s in
    record { verdict = verdict (row_count s) f; contents = cond f.applies zero_contents (contents_of s) }

-- the fields of row i of a list
abbrev pub fields_in : List Row → ℕ → List ℕ
fields_in rs i = row_fields (get_or rs i zero_row)

-- where row i of contents goes, and how long a file of so many rows is
abbrev pub row_place : Contents → ℕ → ℕ
row_place c i = start_of c.form.stated + i * row_size

-- the file that contents make: the head by their form and as many rows as it says
unfoldable pub contents_bytes : Contents → List ℕ
contents_bytes c =
    head_bytes c.form c.head ++ records_bytes letter_r row_widths (table c.head.rows (fields_in c.rows))

-- a buffer with the rows of contents, behind the place of the head
abbrev pub with_rows : Contents → List ℕ → List ℕ
with_rows c out = sheet (start_of c.form.stated) letter_r row_widths out c.head.rows (fields_in c.rows)

-- the fields of row i of a file, and a buffer with n rows of it at their places
abbrev pub fields_from : List ℕ → ℕ → List ℕ
fields_from s i = row_fields (row_at s (row_start s i))

abbrev pub rows_again : List ℕ → ℕ → List ℕ → List ℕ
rows_again s n out = sheet (rows_from s) letter_r row_widths out n (fields_from s)

-- the id of row i of a list
abbrev pub id_in : List Row → ℕ → ℕ
id_in rs i = (get_or rs i zero_row).id

-- 6 and 7 of row i of a list
unfoldable pub row_checks_in : Terms → List Row → ℕ → List Check
row_checks_in t rs i = row_checks t (get_or rs i zero_row) (previous (id_in rs) i)

-- 6 and 7 of each of the rows of contents in turn
abbrev pub held_order : Contents → List Refusal
held_order c = row_by_row c.head.rows (row_checks_in (ruling c.form) c.rows)

-- 3, 14, then 6 and 7 row by row, then 11: contents, and the length of the buffer that they are to go into
unfoldable pub writer_order : Contents → ℕ → List Refusal
writer_order c room =
    (refusal (not (head_ok c.head)) 3 0 ∷ refusal (not (terms_ok (ruling c.form))) 14 0 ∷ held_order c)
    ++ (refusal (ltb room (row_place c c.head.rows)) 11 0 ∷ [])

-- what refuses them: the first check that applies
abbrev pub writer_fault : Contents → ℕ → Refusal
writer_fault c room = first_refusal (writer_order c room)

-- the writer's answer: accepted, with how many bytes it wrote, or the refusal's number and place
unfoldable pub written_of : Contents → ℕ → Verdict
written_of c room = answer_by Refused (Accepted (row_place c c.head.rows)) (writer_fault c room)

-- the writer's buffer afterwards: the file at its front, every byte past it as before; a refusal changes nothing
unfoldable pub written_buffer : Contents → List ℕ → List ℕ
written_buffer c out =
    let made = put out 0 (contents_bytes c) in
    cond (writer_fault c (length out)).applies out made

-- a file read, and what it says written: the reader's refusal if there is one, else the writer's answer; the buffer likewise
unfoldable pub rewritten_of : List ℕ → ℕ → Verdict
rewritten_of s room = answer_by Refused (written_of (reading_of s).contents room) (interval_fault s)

unfoldable pub rewritten_buffer : List ℕ → List ℕ → List ℕ
rewritten_buffer s out =
    let made = written_buffer (reading_of s).contents out in
    cond (interval_fault s).applies out made
