-- The length of a statement that the engine has settled.
--   settled_is     it is what its form and its count of rows make it
--   settled-size   the buffer that was lent holds it
--   settled-whole  its bytes are a whole head, by their mark, and at most 256 lines
use mathlib.Core.Path.{◌≡◌, sym, ap, ◌∙◌}
use mathlib.Core.List.{List}
use Prim.Native.Nat.{ℕ, ◌≤◌}
use native.Mathlib.Omega.{arith}
use Rattle.files.specs.Layout.{row_count}
use Rattle.files.specs.Form.{states, form_of}
use Rattle.files.proofs.Laws.{accepted-few}
use Rattle.records.specs.Record.{records_bytes}
use Rattle.columns.specs.Table.{table}
use Rattle.statement.specs.Statement.{letter_l, line_widths, has_terms}
use Rattle.statement.proofs.Laws.{top-terms}
use Rattle.settle.specs.Statement.{statement_bytes}
use Rattle.files.specs.Verdict.{Verdict, Accepted, number_of, value_of}
use Rattle.settle.specs.Answer.{top_of, line_in, statement_of, size_of, answer_of}
use Rattle.settle.proofs.Answered.{settled-count}
use Rattle.demands.proofs.Demand1.{zero-free, free-zero, settled-accepted, settled-room}
use Rattle.telling.specs.Text.{Whole}

pub settled_is : (s k : List ℕ) (room size : ℕ) → answer_of s k room ≡ Accepted size → size ≡ size_of s
settled_is s k room size h = sym (ap value_of h) ∙ (free-zero s k room (zero-free s k room (ap number_of h))).1

pub settled-size : (s k : List ℕ) (room size : ℕ) (a : Verdict) → a ≡ answer_of s k room → a ≡ Accepted size
    → size ≤ room
settled-size s k room size a e f =
    let h : answer_of s k room ≡ Accepted size = sym e ∙ f in
    omega (arith, settled_is s k room size h, settled-room s k room (ap number_of h))

-- a statement has terms exactly if the file states them
pub settled-terms : (s k : List ℕ) → has_terms (statement_of s k) ≡ states s
unfolding statement_of statement_bytes
settled-terms s k = top-terms (form_of s) (top_of s k) (records_bytes letter_l line_widths (table (row_count s) (line_in s k)))

pub settled-whole : (s k : List ℕ) (room : ℕ) → number_of (answer_of s k room) ≡ 0 → Whole (statement_of s k)
settled-whole s k room h =
    let long = settled-count s k in
    let few = accepted-few s k (row_count s) (settled-accepted s k room h) in
    record {
      plain = omega (arith, long);
      long = rw (settled-terms s k) (omega (arith, long));
      most = rw (settled-terms s k) (omega (arith, long, few));
    }
