-- The columns of a statement's lines, by the names of their fields. Written `line.cut` where this page is used as `line`.
use Rattle.std.specs.Prelude.{ℕ, ◌+◌}
use Rattle.columns.specs.Table.{at}
use Rattle.records.specs.Record.{record_size}
use Rattle.records.specs.Sheet.{field_of}
use Rattle.records.specs.declared.Field.{Field}
use Rattle.statement.specs.Statement.{head_size, line_widths}

-- field j and the one behind it as one field
abbrev beside : ℕ → Field
beside j =
    record {
      start = head_size;
      stride = record_size line_widths;
      offset = (field_of head_size line_widths j).offset;
      width = at line_widths j + at line_widths (j + 1);
    }

abbrev pub id : Field
id = field_of head_size line_widths 0

abbrev pub called1 : Field
called1 = field_of head_size line_widths 1

abbrev pub called2 : Field
called2 = field_of head_size line_widths 2

abbrev pub compensation : Field
compensation = field_of head_size line_widths 3

abbrev pub cut : Field
cut = field_of head_size line_widths 4

abbrev pub weight : Field
weight = field_of head_size line_widths 5

abbrev pub cap : Field
cap = field_of head_size line_widths 6

abbrev pub paid : Field
paid = field_of head_size line_widths 7

abbrev pub closing : Field
closing = field_of head_size line_widths 8

abbrev pub penalty : Field
penalty = field_of head_size line_widths 9

abbrev pub returned : Field
returned = field_of head_size line_widths 10

-- two fields side by side as one: compensation and cut, penalty and what is returned
abbrev pub pay : Field
pay = beside 3

abbrev pub owed : Field
owed = beside 9
