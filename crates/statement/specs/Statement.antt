-- Statements in bytes (01, The files; 02, requests 4, 6, 8 and 9): a head, then a line for each row. A head PS is that of a file that
-- states no terms; a head PT has the terms in front of the visits, and lines stand so many bytes later. A statement is read by its mark.
use Rattle.std.specs.Prelude.{ℕ, ◌+◌, ◌*◌, Bool, cond, List, [], ◌∷◌, ◌++◌, drop}
use Rattle.columns.specs.Table.{at}
use Rattle.records.specs.Fields.{span, fields_bytes}
use Rattle.records.specs.Record.{marked, record_size, fields_at, record_at, record_bytes}
use Rattle.files.specs.Terms.{terms01}
use Rattle.files.specs.Form.{terms_widths, terms_size, terms_from, stated_bytes}
use Rattle.files.specs.declared.Form.{Form}
use Rattle.files.specs.declared.Terms.{Terms}
use Rattle.statement.specs.declared.StatementHead.{StatementHead}

-- the letters of the marks PS, PT and PL
abbrev pub letter_s : ℕ
letter_s = 83

abbrev pub letter_t : ℕ
letter_t = 84

abbrev pub letter_l : ℕ
letter_l = 76

-- what stands in front of a head's terms: day, quarter, price of tier 1, of tier 2, total, shortfall, rounds, uncovered, rows
abbrev pub front_widths : List ℕ
front_widths = 4 ∷ 1 ∷ 2 ∷ 2 ∷ 8 ∷ 8 ∷ 2 ∷ 4 ∷ 2 ∷ []

abbrev pub front_size : ℕ
front_size = record_size front_widths

-- and behind them: visits, averaged
abbrev pub tail_widths : List ℕ
tail_widths = 4 ∷ 1 ∷ []

-- id, called in tier 1, in tier 2, compensation, cut, weight, cap, paid, closing round, penalty, returned
abbrev pub line_widths : List ℕ
line_widths = 2 ∷ 4 ∷ 4 ∷ 4 ∷ 4 ∷ 4 ∷ 4 ∷ 4 ∷ 2 ∷ 4 ∷ 4 ∷ []

-- how many bytes a head PS takes, and a line
abbrev pub head_size : ℕ
head_size = front_size + span tail_widths

abbrev pub line_size : ℕ
line_size = record_size line_widths

-- where line i begins behind a head PS, and how long such a statement of so many lines is
abbrev pub line_start : ℕ → ℕ
line_start i = head_size + i * line_size

-- how many bytes later lines stand in a statement with terms
abbrev pub extra_of : Bool → ℕ
extra_of b = cond b terms_size 0

-- the front of a head as its fields, and its tail
abbrev pub front_fields : StatementHead → List ℕ
front_fields h =
    h.day ∷ h.quarter ∷ h.price1.0 ∷ h.price2.0 ∷ h.total.0 ∷ h.shortfall.0 ∷ h.rounds ∷ h.uncovered.0 ∷ h.rows ∷ []

abbrev pub tail_fields : StatementHead → List ℕ
tail_fields h = h.visits ∷ h.averaged ∷ []

-- and the head of both
abbrev pub head_from : List ℕ → List ℕ → StatementHead
head_from xs ys =
    record {
      day = at xs 0;
      quarter = at xs 1;
      price1 = record { 0 = at xs 2 };
      price2 = record { 0 = at xs 3 };
      total = record { 0 = at xs 4 };
      shortfall = record { 0 = at xs 5 };
      rounds = at xs 6;
      uncovered = record { 0 = at xs 7 };
      rows = at xs 8;
      visits = at ys 0;
      averaged = at ys 1;
    }

-- a head in bytes, by the form of the file that is settled
abbrev pub head_letter : Bool → ℕ
head_letter b = cond b letter_t letter_s

unfoldable pub top_bytes : Form → StatementHead → List ℕ
top_bytes f h =
    record_bytes (head_letter f.stated) front_widths (front_fields h) ++ (stated_bytes f ++ fields_bytes tail_widths (tail_fields h))

-- a statement has terms, by its mark; so many bytes later its lines stand
unfoldable pub has_terms : List ℕ → Bool
has_terms b = marked b 0 letter_t

abbrev pub extra_in : List ℕ → ℕ
extra_in b = extra_of (has_terms b)

-- the head of a statement, the terms that ruled, and its bytes from where lines stand as behind a head PS
unfoldable pub head_in : List ℕ → StatementHead
head_in b = head_from (record_at front_widths b 0) (fields_at tail_widths b (front_size + extra_in b))

unfoldable pub terms_in : List ℕ → Terms
terms_in b = cond (has_terms b) (terms_from (fields_at terms_widths b front_size)) terms01

unfoldable pub body_in : List ℕ → List ℕ
body_in b = drop (extra_in b) b
