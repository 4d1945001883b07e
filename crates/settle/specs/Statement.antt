-- The statement that the figures make (01, The files; 02, requests 4, 6, 8 and 9).
use Rattle.std.specs.Prelude.{ℕ, Bool, List, [], ◌∷◌, ◌++◌}
use Rattle.columns.specs.Sum.{bit}
use Rattle.columns.specs.Table.{at, table}
use Rattle.records.specs.Record.{records_bytes}
use Rattle.files.specs.declared.Form.{Form}
use Rattle.files.specs.declared.Head.{Head}
use Rattle.statement.specs.Statement.{letter_l, line_widths, top_bytes}
use Rattle.statement.specs.declared.StatementHead.{StatementHead}
use Rattle.settle.specs.Settlement.{Figures}

-- the head, by the head of the file, the count of rows, whether the thermal average ruled, and the figures
unfoldable pub statement_head : Head → ℕ → Bool → Figures → StatementHead
statement_head h n averaged f =
    record {
      day = h.day;
      quarter = h.quarter;
      price1 = record { 0 = f.price1 };
      price2 = record { 0 = f.price2 };
      total = record { 0 = f.total };
      shortfall = record { 0 = f.shortfall };
      rounds = f.rounds;
      uncovered = record { 0 = f.uncovered };
      rows = n;
      visits = f.visits;
      averaged = bit averaged;
    }

-- the fields of the line of the row at position i, which has this id
abbrev pub line_of : ℕ → Figures → ℕ → List ℕ
line_of id f i =
    id ∷ at f.called1 i ∷ at f.called2 i ∷ at f.compensations i ∷ at f.cuts i ∷ at f.weights i ∷ at f.caps i
    ∷ at f.paid i ∷ at f.closing i ∷ at f.penalties i ∷ at f.returned i ∷ []

-- its bytes: the head that the file's form asks for, then a line for each of n rows
unfoldable pub statement_bytes : Form → StatementHead → ℕ → (ℕ → List ℕ) → List ℕ
statement_bytes form top n line = top_bytes form top ++ records_bytes letter_l line_widths (table n line)
