-- Interval files and corrections in bytes (01, The files): a head, then rows, each a record by its table of widths.
use Rattle.std.specs.Prelude.{ℕ, ◌+◌, ◌*◌, List, [], ◌∷◌}
use Rattle.columns.specs.Table.{at}
use Rattle.records.specs.Record.{record_size, record_at, record_bytes}
use Rattle.files.specs.declared.Head.{Head}
use Rattle.files.specs.declared.Row.{Row}
use Rattle.files.specs.declared.CorrectionHead.{CorrectionHead}

-- the letters of the marks PR and PK; those of an interval's head are with its forms (specs/Form.antt)
abbrev pub letter_r : ℕ
letter_r = 82

abbrev pub letter_k : ℕ
letter_k = 75

-- what all heads of an interval share: day, quarter, tariff, need, rows
abbrev pub head_widths : List ℕ
head_widths = 4 ∷ 1 ∷ 2 ∷ 4 ∷ 2 ∷ []

-- a row: id, kind, capacity, metered, status, offered, minimum, bid of tier 1, of tier 2
abbrev pub row_widths : List ℕ
row_widths = 2 ∷ 1 ∷ 2 ∷ 4 ∷ 1 ∷ 1 ∷ 4 ∷ 2 ∷ 2 ∷ []

-- a correction's head: day, quarter, rows
abbrev pub correction_widths : List ℕ
correction_widths = 4 ∷ 1 ∷ 2 ∷ []

-- how many bytes each takes with its mark
abbrev pub head_size : ℕ
head_size = record_size head_widths

abbrev pub row_size : ℕ
row_size = record_size row_widths

abbrev pub correction_head_size : ℕ
correction_head_size = record_size correction_widths

-- where row j of a correction begins
abbrev pub correction_start : ℕ → ℕ
correction_start j = correction_head_size + j * row_size

-- a head as its fields, and back
abbrev pub head_fields : Head → List ℕ
head_fields h = h.day ∷ h.quarter ∷ h.tariff.0 ∷ h.need.0 ∷ h.rows ∷ []

abbrev pub head_of : List ℕ → Head
head_of xs =
    record {
      day = at xs 0;
      quarter = at xs 1;
      tariff = record { 0 = at xs 2 };
      need = record { 0 = at xs 3 };
      rows = at xs 4;
    }

-- a row as its fields, and back
abbrev pub row_fields : Row → List ℕ
row_fields r =
    r.id ∷ r.kind ∷ r.capacity ∷ r.metered.0 ∷ r.status ∷ r.offered ∷ r.minimum.0 ∷ r.bid1.0 ∷ r.bid2.0 ∷ []

abbrev pub row_of : List ℕ → Row
row_of xs =
    record {
      id = at xs 0;
      kind = at xs 1;
      capacity = at xs 2;
      metered = record { 0 = at xs 3 };
      status = at xs 4;
      offered = at xs 5;
      minimum = record { 0 = at xs 6 };
      bid1 = record { 0 = at xs 7 };
      bid2 = record { 0 = at xs 8 };
    }

-- a correction's head of its fields
abbrev pub correction_head_of : List ℕ → CorrectionHead
correction_head_of xs = record { day = at xs 0; quarter = at xs 1; rows = at xs 2 }

-- the head at the front of an interval file, the row at position k, the head at the front of a correction
unfoldable pub head_at : List ℕ → Head
head_at s = head_of (record_at head_widths s 0)

unfoldable pub row_at : List ℕ → ℕ → Row
row_at s k = row_of (record_at row_widths s k)

unfoldable pub correction_head_at : List ℕ → CorrectionHead
correction_head_at s = correction_head_of (record_at correction_widths s 0)

-- a row in bytes
unfoldable pub row_bytes : Row → List ℕ
row_bytes r = record_bytes letter_r row_widths (row_fields r)

-- how many rows the head of an interval file announces, and how many that of a correction; none where it is empty
abbrev pub row_count : List ℕ → ℕ
row_count s = (head_at s).rows

abbrev pub correction_count : List ℕ → ℕ
correction_count k = (correction_head_at k).rows
