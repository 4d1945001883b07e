-- What contents in range make.
--   contents-accepted   a file that is accepted
--   contents-again      and that says these contents
--   contents-read       so they are what the reader answers to it
use mathlib.Core.Path.{◌≡◌, sym, ap, ◌∙◌}
use mathlib.Core.Bool.{true}
use mathlib.Core.Logic.{⊎_elim}
use Prim.Native.Nat.{ℕ, ◌≤◌, ◌<◌}
use native.Mathlib.Omega.{arith}
use borrow.Author.Tests.{lt-ltb, le-ltb, eq-eqb}
use lib.ListN.{length, get_or}
use Rattle.columns.specs.Table.{table}
use Rattle.columns.specs.Test.{first_of}
use Rattle.columns.specs.Checks.{placed, previous}
use Rattle.columns.proofs.Sum.{lt-or-le}
use Rattle.columns.proofs.Table.{table_is}
use Rattle.columns.proofs.Checks.{Passes, previous-same, append-next, placed-passes}
use Rattle.files.specs.Layout.{head_size, row_size, head_at, row_at, row_count}
use Rattle.files.specs.Form.{ruling, terms_of, start_of, rows_from, row_start}
use Rattle.files.specs.Range.{head_ok, terms_ok}
use Rattle.files.specs.Walk.{id_of}
use Rattle.files.specs.Order.{front_checks, head_checks, row_checks, row_checks_at, row_checks_of, rows_order, own_order, interval_order}
use Rattle.files.specs.declared.Head.{Head}
use Rattle.files.specs.declared.Row.{Row}
use Rattle.files.specs.Verdict.{Accepted}
use Rattle.contents.specs.Content.{zero_row, contents_of, reading_of, row_place, contents_bytes, id_in}
use Rattle.contents.specs.InRange.{InRange}
use Rattle.contents.specs.declared.Contents.{Contents}
use Rattle.contents.proofs.Walk.{file_row}
use Rattle.contents.proofs.Record.{head-fits, row_fits}
use Rattle.files.proofs.Passed.{from-least}
use Rattle.contents.proofs.Rows.{contents-length, contents-known, contents-from, contents-terms, contents-form, contents-head}
use Rattle.contents.proofs.Rows.{contents-row, contents-row-mark}
use Rattle.contents.proofs.Refusal.{rows_all, row-passes, rising-ids}
use Rattle.contents.proofs.Said.{file-reading}

module _ (c : Contents) (c-in : InRange c) where
  made-head : head_at (contents_bytes c) ≡ c.head
  made-head = contents-head c (head-fits c.head c-in.head)

  made-count : row_count (contents_bytes c) ≡ c.head.rows
  made-count = ap (λ (h : Head). h.rows) made-head

  made-terms : terms_of (contents_bytes c) ≡ ruling c.form
  made-terms = contents-terms c c-in.terms

  -- where rows begin
  abbrev start : ℕ
  start = start_of c.form.stated

  made_row : (k : ℕ) → k < c.head.rows → row_at (contents_bytes c) (row_place c k) ≡ get_or c.rows k zero_row
  made_row k l =
      contents-row c k l (row_fits (ruling c.form) (get_or c.rows k zero_row) c-in.terms (c-in.rows k l) (c-in.ids k))

  made-previous : (k : ℕ) → k < c.head.rows → previous (id_of (contents_bytes c) start row_size) k ≡ previous (id_in c.rows) k
  made-previous k l =
      previous-same (id_of (contents_bytes c) start row_size) (id_in c.rows) k (λ j q. ap (λ (r : Row). r.id) (made_row j (omega arith)))

  row_made : (k : ℕ) → k < c.head.rows → first_of (row_checks_of (ruling c.form) (contents_bytes c) start row_size k) ≡ 0
  unfolding row_checks_of row_checks_at
  row_made k l =
      rw (contents-row-mark c k l, made_row k l, made-previous k l)
      (row-passes (ruling c.form) (get_or c.rows k zero_row) (previous (id_in c.rows) k) (c-in.rows k l) (rising-ids c c-in k l))

  made-rows : Passes (rows_order (ruling c.form) (contents_bytes c) start row_size c.head.rows)
  unfolding row_checks_of row_checks_at row_checks
  made-rows = rows_all (row_checks_of (ruling c.form) (contents_bytes c) start row_size) c.head.rows (λ i. tt) row_made

  made-start : first_of (head_checks (contents_bytes c)) ≡ 0
  unfolding head_checks front_checks
  made-start =
      let s = contents_bytes c in
      let long : length s ≡ row_start s (row_count s) = rw (contents-from c, made-count) (contents-length c) in
      let least = from-least s in
      let ok : head_ok (head_at s) ≡ true = rw made-head c-in.head in
      let sound : terms_ok (terms_of s) ≡ true = rw made-terms c-in.terms in
      rw (
        le-ltb (length s) head_size (omega arith),
        contents-known c,
        le-ltb (length s) (rows_from s) (omega arith),
        ok,
        sound,
        eq-eqb (length s) (row_start s (row_count s)) long,
      )

  pub contents-accepted : Passes (interval_order (contents_bytes c))
  unfolding interval_order head_checks front_checks
  contents-accepted =
      let s = contents_bytes c in
      rw (
        append-next (placed 0 (head_checks s)) (own_order s) (placed-passes 0 (head_checks s) tt made-start),
        made-terms,
        contents-from c,
        made-count,
      )
      made-rows

  pub contents-again : contents_of (contents_bytes c) ≡ c
  unfolding contents_of
  contents-again =
      let s = contents_bytes c in
      let rows : c.rows ≡ table 256 (file_row s) =
      table_is zero_row c.rows 256 (file_row s) c-in.held
      (λ k q.
      ⊎_elim
      (λ (l : k < c.head.rows). rw (lt-ltb k (row_count s) (omega (arith, made-count)), contents-from c) (sym (made_row k l)))
      (λ (m : c.head.rows ≤ k). rw (le-ltb k (row_count s) (omega (arith, made-count))) (c-in.past k m))
      (lt-or-le k c.head.rows)) in
      rw (contents-form c c-in.terms c-in.unstated, made-head, ← rows)

  pub contents-read : reading_of (contents_bytes c) ≡ record { verdict = Accepted c.head.rows; contents = c }
  contents-read = file-reading (contents_bytes c) contents-accepted ∙ rw (made-count, contents-again)
