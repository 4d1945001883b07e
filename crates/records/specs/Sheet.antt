-- Records of one table, one after the other in a buffer, seen as columns: a field of the table is a column of as many cells as there are records.
use Rattle.std.specs.Prelude.{ℕ, zero, suc, ◌+◌, ◌*◌, ◌≤◌, cond, List, ltb, length, take}
use Rattle.columns.specs.Table.{at, table}
use Rattle.records.specs.Number.{number_at, number_bytes}
use Rattle.records.specs.Fields.{span}
use Rattle.records.specs.Buffer.{put}
use Rattle.records.specs.Record.{record_size, records_bytes}
use Rattle.records.specs.declared.Field.{Field}

-- field j of a table of widths, where the first record begins at `start`
abbrev pub field_of : ℕ → List ℕ → ℕ → Field
field_of start ws j = record { start = start; stride = record_size ws; offset = 2 + span (take j ws); width = at ws j }

-- the place of a field's cell in record i, and the number in it
abbrev pub cell_at : Field → ℕ → ℕ
cell_at f i = f.start + i * f.stride + f.offset

abbrev pub cell : Field → List ℕ → ℕ → ℕ
cell f s i = number_at f.width s (cell_at f i)

-- the column of a field over the first n records
unfoldable pub column_of : Field → ℕ → List ℕ → List ℕ
column_of f n s = table n (cell f s)

-- s with x in one cell, with the first n of xs in the first n cells, with all of xs
unfoldable pub with_cell : Field → ℕ → ℕ → List ℕ → List ℕ
with_cell f i x s = put s (cell_at f i) (number_bytes f.width x)

unfoldable pub with_cells : Field → ℕ → List ℕ → List ℕ → List ℕ
with_cells f zero xs s = s
with_cells f (suc n) xs s = with_cell f n (at xs n) (with_cells f n xs s)

unfoldable pub with_column : Field → List ℕ → List ℕ → List ℕ
with_column f xs s = with_cells f (length xs) xs s

-- a field lies within its record, and n records within s
pub record Lined (f : Field) (n : ℕ) (s : List ℕ) : Type 0 where
  pub inside : f.offset + f.width ≤ f.stride
  pub room : f.start + n * f.stride ≤ length s

-- n records put into a buffer from `start` on; f i has the fields of record i
unfoldable pub sheet : ℕ → ℕ → List ℕ → List ℕ → ℕ → (ℕ → List ℕ) → List ℕ
sheet start letter ws out n f = put out start (records_bytes letter ws (table n f))

-- g for the first m records, f for the others: a stage that goes from record to record and has come to record m
abbrev pub up_to : {A : Type 0} → ℕ → (ℕ → A) → (ℕ → A) → ℕ → A
up_to m g f i = cond (ltb i m) (g i) (f i)
