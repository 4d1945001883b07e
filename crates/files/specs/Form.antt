-- The forms of an interval file (01, The files; 02, request 6). A head PH means the terms of document 01; a head PG has the same fields
-- and then the terms that it states. What a form adds stands behind the fields that all heads share, and rows begin behind that.
use Rattle.std.specs.Prelude.{ℕ, ◌+◌, ◌*◌, Bool, cond, ◌||◌, List, [], ◌∷◌, ◌++◌}
use Rattle.columns.specs.Table.{at}
use Rattle.records.specs.Fields.{span, fields_bytes}
use Rattle.records.specs.Record.{marked, fields_at, record_bytes}
use Rattle.files.specs.Terms.{terms01}
use Rattle.files.specs.Layout.{head_widths, head_size, row_size, head_fields}
use Rattle.files.specs.declared.Form.{Form}
use Rattle.files.specs.declared.Head.{Head}
use Rattle.files.specs.declared.Terms.{Terms}

-- the letters of the marks PH and PG
abbrev pub letter_h : ℕ
letter_h = 72

abbrev pub letter_g : ℕ
letter_g = 71

-- terms in bytes: percent of the baseline, lowest and highest bid of tier 1, of tier 2
abbrev pub terms_widths : List ℕ
terms_widths = 1 ∷ 2 ∷ 2 ∷ 2 ∷ 2 ∷ []

abbrev pub terms_size : ℕ
terms_size = span terms_widths

-- terms as their fields, and back
abbrev pub terms_fields : Terms → List ℕ
terms_fields t = t.percent ∷ t.lowest1.0 ∷ t.highest1.0 ∷ t.lowest2.0 ∷ t.highest2.0 ∷ []

abbrev pub terms_from : List ℕ → Terms
terms_from xs =
    record {
      percent = at xs 0;
      lowest1 = record { 0 = at xs 1 };
      highest1 = record { 0 = at xs 2 };
      lowest2 = record { 0 = at xs 3 };
      highest2 = record { 0 = at xs 4 };
    }

-- the terms behind the fields that all heads share, and their bytes
unfoldable pub terms_at : List ℕ → Terms
terms_at s = terms_from (fields_at terms_widths s head_size)

unfoldable pub terms_bytes : Terms → List ℕ
terms_bytes t = fields_bytes terms_widths (terms_fields t)

-- a file's mark is one of the two
unfoldable pub known : List ℕ → Bool
known s = marked s 0 letter_h || marked s 0 letter_g

-- it states its terms
unfoldable pub states : List ℕ → Bool
states s = marked s 0 letter_g

-- the terms that rule a form: those that it states, else those of document 01
abbrev pub ruling : Form → Terms
ruling f = cond f.stated f.terms terms01

-- the terms that rule a file, and the file's form
unfoldable pub terms_of : List ℕ → Terms
terms_of s = cond (states s) (terms_at s) terms01

abbrev pub form_of : List ℕ → Form
form_of s = record { stated = states s; terms = terms_of s }

-- how long a head is, by whether it states terms
abbrev pub start_of : Bool → ℕ
start_of b = cond b (head_size + terms_size) head_size

-- where the rows of a file begin, and its row i
unfoldable pub rows_from : List ℕ → ℕ
rows_from s = start_of (states s)

abbrev pub row_start : List ℕ → ℕ → ℕ
row_start s i = rows_from s + i * row_size

-- a head in bytes, by its form
abbrev pub letter_of : Form → ℕ
letter_of f = cond f.stated letter_g letter_h

abbrev pub stated_bytes : Form → List ℕ
stated_bytes f = cond f.stated (terms_bytes f.terms) []

unfoldable pub head_bytes : Form → Head → List ℕ
head_bytes f h = record_bytes (letter_of f) head_widths (head_fields h) ++ stated_bytes f
