-- The engine's answer to any two files and any buffer, and the buffer afterwards (01, Numbers of refusal).
use Rattle.std.specs.Prelude.{ℕ, ◌+◌, cond, List, [], ◌∷◌, ◌++◌, ltb, length}
use Rattle.records.specs.Buffer.{put}
use Rattle.files.specs.Layout.{head_at, row_count}
use Rattle.files.specs.Form.{states, terms_of, form_of}
use Rattle.columns.specs.Checks.{Refusal, refusal, first_refusal, answer_by}
use Rattle.files.specs.Order.{file_order}
use Rattle.files.specs.Verdict.{Verdict, Accepted, Refused}
use Rattle.files.specs.Counting.{counting_row}
use Rattle.files.specs.Terms.{baseline}
use Rattle.duties.specs.Average.{average_of, base_of}
use Rattle.duties.specs.Duties.{Duties, duties_of}
use Rattle.duties.specs.declared.average.Average.{Average}
use Rattle.statement.specs.Statement.{line_start, extra_of}
use Rattle.statement.specs.declared.StatementHead.{StatementHead}
use Rattle.settle.specs.Settlement.{Figures, first_turn, figures}
use Rattle.settle.specs.Statement.{statement_head, line_of, statement_bytes}

-- whether the thermal average rules an accepted pair of files, and by which sums
unfoldable pub average_in : List ℕ → List ℕ → Average
average_in s k = average_of (terms_of s) (head_at s).need.0 (row_count s) (counting_row s k)

-- the limit of row i, and its base
abbrev pub limit_in : List ℕ → List ℕ → ℕ → ℕ
limit_in s k i = baseline (terms_of s) (counting_row s k i).capacity

abbrev pub base_in : List ℕ → List ℕ → ℕ → ℕ
base_in s k i = base_of (terms_of s) (average_in s k) (counting_row s k i).capacity

-- what the rows of an accepted pair offer, delivered, weigh and may be asked to pay
unfoldable pub duties_in : List ℕ → List ℕ → Duties
duties_in s k = duties_of (limit_in s k) (base_in s k) (head_at s).tariff.0 (row_count s) (counting_row s k)

-- the figures of an accepted pair
unfoldable pub figures_of : List ℕ → List ℕ → Figures
figures_of s k = figures (head_at s).need.0 (first_turn (head_at s).quarter (row_count s)) (duties_in s k)

-- what the head of its statement says beside terms, and the fields of line i
unfoldable pub top_of : List ℕ → List ℕ → StatementHead
top_of s k = statement_head (head_at s) (row_count s) (average_in s k).rules (figures_of s k)

unfoldable pub line_in : List ℕ → List ℕ → ℕ → List ℕ
line_in s k i = line_of (counting_row s k i).id (figures_of s k) i

-- its statement, and how long that is
unfoldable pub statement_of : List ℕ → List ℕ → List ℕ
statement_of s k = statement_bytes (form_of s) (top_of s k) (row_count s) (line_in s k)

abbrev pub size_of : List ℕ → ℕ
size_of s = extra_of (states s) + line_start (row_count s)

-- 11: a buffer shorter than the statement
abbrev pub room_order : List ℕ → ℕ → List Refusal
room_order s room = refusal (ltb room (size_of s)) 11 0 ∷ []

-- 1 to 10 and 14 of the files in their order, then 11
unfoldable pub settle_order : List ℕ → List ℕ → ℕ → List Refusal
settle_order s k room = file_order s k ++ room_order s room

-- the first of them that applies decides: accepted, with the count of bytes written, or the refusal's number and place
unfoldable pub answer_of : List ℕ → List ℕ → ℕ → Verdict
answer_of s k room = answer_by Refused (Accepted (size_of s)) (first_refusal (settle_order s k room))

-- the buffer afterwards: the statement at its front, every byte past it as before; a refusal changes nothing
unfoldable pub buffer_after : List ℕ → List ℕ → List ℕ → List ℕ
buffer_after s k out =
    let written = put out 0 (statement_of s k) in
    cond (first_refusal (settle_order s k (length out))).applies out written
