-- Demand 2: the statement says what the rules say. That the engine's answer is `answer_of` and its buffer `buffer_after` is the
-- contract of `settle`; here is what these two fix. After a settlement, of a file of either form,
--   statement-read-form    the statement has terms exactly if the file states them
--   statement-read-terms   the terms read back are those that rule the file
--   statement-read-head    the head read back from the buffer is that of the figures
--   statement-read-figure  each figure of line i read back is that of row i
--   statement-read-id      and so is its id, if the interval file is made of bytes
--   statement-figures      all figures read back are those of the rules, `figures`
use Prim.Native.Nat.{ℕ, suc, ◌+◌, ◌^◌, ◌<◌}
use mathlib.Core.Path.{◌≡◌, refl, sym, ap, ◌∙◌}
use mathlib.Core.Bool.{Bool, true, false, cond}
use mathlib.Core.List.{List, ◌++◌, append_assoc}
use native.Mathlib.Omega.{arith}
use lib.ListN.{length, drop}
use Rattle.columns.specs.Table.{at, table}
use Rattle.columns.proofs.Table.{table_same, table-list}
use Rattle.records.specs.Buffer.{put}
use Rattle.records.specs.Record.{records_bytes}
use Rattle.records.specs.Sheet.{cell_at, cell, column_of, field_of, sheet}
use Rattle.records.specs.Number.{number_at}
use Rattle.records.proofs.Number.{number-drop}
use Rattle.records.proofs.Sheet.{sheet-cell-of}
use Rattle.records.proofs.Buffer.{put-put, put-length}
use Rattle.files.specs.Layout.{row_count}
use Rattle.files.specs.Terms.{terms01}
use Rattle.files.specs.Form.{terms_at, states, terms_of, ruling, form_of}
use Rattle.files.specs.Order.{verdict_of}
use Rattle.files.specs.Counting.{counting_row}
use Rattle.files.specs.Verdict.{Accepted, number_of}
use Rattle.statement.specs.Statement.{letter_l, line_widths, head_size, extra_of, top_bytes, has_terms, extra_in, head_in, terms_in, body_in}
use Rattle.statement.proofs.Laws.{top-length, top-terms, top_read, terms-read}
use Rattle.settle.specs.Settlement.{Figures}
use Rattle.settle.specs.Statement.{statement_head, line_of, statement_bytes}
use Rattle.settle.specs.Answer.{figures_of, top_of, line_in, statement_of, answer_of, buffer_after}
use Rattle.settle.proofs.Answered.{line-full}
use Rattle.demands.specs.Promise.{Bytes, figures_at}
use Rattle.demands.proofs.Fitting.{accepted-long, accepted-terms-fit, accepted-head-fits, accepted-figure-fits, id-fits}
use Rattle.demands.proofs.Demand1.{settled-accepted, settled-room, settled-buffer}

-- the terms that rule a file's form are the file's
form-rules : (s : List ℕ) → ruling (form_of s) ≡ terms_of s
unfolding terms_of
form-rules s = go (states s) where
  go : (b : Bool) → cond b (cond b (terms_at s) terms01) terms01 ≡ cond b (terms_at s) terms01
  go true = refl
  go false = refl

-- a cell of the lines, where they stand as behind a head PS, and where they stand
body-cell : (b : List ℕ) (j i : ℕ) → cell (field_of head_size line_widths j) (body_in b) i ≡ cell (field_of (extra_in b + head_size) line_widths j) b i
unfolding body_in
body-cell b j i =
    let f = field_of head_size line_widths j in
    let e : extra_in b + cell_at f i ≡ cell_at (field_of (extra_in b + head_size) line_widths j) i = omega arith in
    number-drop f.width b (extra_in b) (cell_at f i) ∙ ap (number_at f.width b) e

module _ (s k out : List ℕ) (h : number_of (answer_of s k (length out)) ≡ 0) where
  -- the rows, and the figures that the rules make of them
  abbrev n : ℕ
  n = row_count s

  abbrev f : Figures
  f = figures_of s k

  abbrev head : List ℕ
  head = top_bytes (form_of s) (top_of s k)

  abbrev line_bytes : List ℕ
  line_bytes = records_bytes letter_l line_widths (table n (line_in s k))

  accepted : verdict_of s k ≡ Accepted n
  accepted = settled-accepted s k (length out) h

  long : length head ≡ extra_of (states s) + head_size
  long = top-length (form_of s) (top_of s k)

  -- the buffer is the head in front of what it held, and the lines put behind the head
  laid : buffer_after s k out ≡ sheet (extra_of (states s) + head_size) letter_l line_widths (put out 0 head) n (line_in s k)
  unfolding statement_of statement_bytes sheet
  laid =
      settled-buffer s k out h
      ∙ sym (put-put out 0 (extra_of (states s) + head_size) head line_bytes (omega (arith, long)) (omega arith))

  abbrev rest : List ℕ
  rest = line_bytes ++ drop (0 + length (statement_of s k)) out

  spelled : buffer_after s k out ≡ head ++ rest
  unfolding put statement_of statement_bytes
  spelled = settled-buffer s k out h ∙ append_assoc head line_bytes (drop (0 + length (statement_of s k)) out)

  pub statement-read-form : has_terms (buffer_after s k out) ≡ states s
  statement-read-form = rw spelled (top-terms (form_of s) (top_of s k) rest)

  pub statement-read-terms : terms_in (buffer_after s k out) ≡ terms_of s
  statement-read-terms =
      rw spelled (terms-read (form_of s) (top_of s k) rest (accepted-terms-fit s k n accepted)) ∙ form-rules s

  pub statement-read-head : head_in (buffer_after s k out) ≡ top_of s k
  statement-read-head = rw spelled (top_read (form_of s) (top_of s k) rest (accepted-head-fits s k n accepted))

  -- a field of line i that fits its width
  field-read : (j i : ℕ) → j < 11 → i < n → at (line_in s k i) j < 256 ^ at line_widths j
      → cell (field_of head_size line_widths j) (body_in (buffer_after s k out)) i ≡ at (line_in s k i) j
  field-read j i known l fits =
      let space = settled-room s k (length out) h in
      let same = put-length out 0 head (omega (arith, long, space)) in
      body-cell (buffer_after s k out) j i
      ∙ rw (statement-read-form, laid)
      (sheet-cell-of (extra_of (states s) + head_size) letter_l line_widths (put out 0 head) n (line_in s k) j (line-full s k) known
      (omega (arith, same, space)) i l fits)

  pub statement-read-figure : (j i : ℕ) → j < 10 → i < row_count s
      → cell (field_of head_size line_widths (suc j)) (body_in (buffer_after s k out)) i
      ≡ at (line_of (counting_row s k i).id (figures_of s k) i) (suc j)
  unfolding line_in
  statement-read-figure j i known l =
      field-read (suc j) i (omega arith) l (accepted-figure-fits s k n accepted (counting_row s k i).id j i)

  pub statement-read-id : Bytes s → (i : ℕ) → i < row_count s
      → cell (field_of head_size line_widths 0) (body_in (buffer_after s k out)) i ≡ (counting_row s k i).id
  unfolding line_in
  statement-read-id bytes i l = field-read 0 i (omega arith) l (id-fits s k n accepted bytes i)

  abbrev lines : ℕ → List ℕ
  lines i = line_of (counting_row s k i).id f i

  column : (j : ℕ) (xs : List ℕ) → j < 10 → length xs ≡ n → ((i : ℕ) → at (lines i) (suc j) ≡ at xs i)
      → column_of (field_of head_size line_widths (suc j)) n (body_in (buffer_after s k out)) ≡ xs
  unfolding column_of
  column j xs known e is =
      table_same n (cell (field_of head_size line_widths (suc j)) (body_in (buffer_after s k out))) (at xs) (λ i l. statement-read-figure j i known l ∙ is i)
      ∙ ap (λ (m : ℕ). table m (at xs)) (sym e) ∙ sym (table-list 0 xs)

  pub statement-figures : figures_at (buffer_after s k out) ≡ figures_of s k
  unfolding figures_at top_of statement_head
  statement-figures =
      let long = accepted-long s k in
      rw statement-read-head
      (λ j. record {
        price1 = f.price1;
        price2 = f.price2;
        total = f.total;
        shortfall = f.shortfall;
        rounds = f.rounds;
        uncovered = f.uncovered;
        visits = f.visits;
        called1 = column 0 f.called1 (omega arith) long.called1 (λ i. refl) j;
        called2 = column 1 f.called2 (omega arith) long.called2 (λ i. refl) j;
        compensations = column 2 f.compensations (omega arith) long.compensations (λ i. refl) j;
        cuts = column 3 f.cuts (omega arith) long.cuts (λ i. refl) j;
        weights = column 4 f.weights (omega arith) long.weights (λ i. refl) j;
        caps = column 5 f.caps (omega arith) long.caps (λ i. refl) j;
        paid = column 6 f.paid (omega arith) long.paid (λ i. refl) j;
        closing = column 7 f.closing (omega arith) long.closing (λ i. refl) j;
        penalties = column 8 f.penalties (omega arith) long.penalties (λ i. refl) j;
        returned = column 9 f.returned (omega arith) long.returned (λ i. refl) j;
      })
