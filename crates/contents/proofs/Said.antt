-- What an accepted interval file says.
--   head_of, few      its head passed 1 to 4 and 14, and announces at most 256 rows
--   file-again        its contents make the same bytes again
--   file-in-range     they are in range
--   file-reading, file-said     they are what the reader answers
--   file-rules        they are checked against the terms of the file
--   rules-ok          and those are in their ranges
--   kept              row by row they are the file's
--   file-held         nothing refuses them by 6 or 7
use mathlib.Core.Path.{◌≡◌, refl, sym, ap, ◌∙◌}
use mathlib.Core.Bool.{Bool, true, false, cond}
use mathlib.Core.Logic.{⊎_elim}
use mathlib.Core.List.{List}
use Prim.Native.Nat.{ℕ, ◌+◌, ◌*◌, ◌^◌, ◌≤◌, ◌<◌}
use native.Mathlib.Omega.{arith}
use borrow.Author.Tests.{lt-ltb, le-ltb}
use lib.ListN.{get_or}
use lib.Seq.{take-add, take_all}
use Rattle.columns.specs.Table.{table}
use Rattle.columns.specs.Checks.{placed, previous}
use Rattle.columns.proofs.Sum.{lt-or-le}
use Rattle.columns.proofs.Table.{table-length, table_at, table-past, table_same}
use Rattle.columns.proofs.Checks.{Passes, previous-same, previous-next, append-passes, passes-placed}
use Rattle.records.specs.Record.{record_at}
use Rattle.records.proofs.Record.{record-fits}
use Rattle.files.specs.Layout.{letter_r, row_widths, row_size, head_at, row_at, row_fields, row_count}
use Rattle.files.specs.Terms.{terms01}
use Rattle.files.specs.Form.{terms_at, states, ruling, terms_of, form_of, rows_from, row_start}
use Rattle.files.specs.Walk.{own_id}
use Rattle.files.specs.Range.{terms_ok, row_ok}
use Rattle.files.specs.Order.{head_checks, own_order, interval_order}
use Rattle.files.specs.declared.Row.{Row}
use Rattle.files.specs.declared.Terms.{Terms}
use Rattle.files.specs.Verdict.{Accepted}
use Rattle.files.proofs.Passed.{HeadPassed, head_passed, Passed, rows-passed}
use Rattle.contents.specs.Content.{zero_row, contents_of, reading_of, fields_in, contents_bytes, id_in, held_order}
use Rattle.contents.specs.InRange.{InRange}
use Rattle.contents.specs.Content.{Reading}
use Rattle.contents.proofs.Walk.{file_row}
use Rattle.contents.proofs.Record.{row-said, rows_few}
use Rattle.contents.proofs.Headed.{head-again}
use Rattle.contents.proofs.Rows.{records-write}
use Rattle.contents.proofs.Refusal.{list-passes}

-- the terms that rule a file's form are the file's: a form that states none has document 01's
pub file-rules : (s : List ℕ) → ruling (form_of s) ≡ terms_of s
unfolding terms_of
file-rules s = go (states s) (terms_at s) where
  go : (b : Bool) (t : Terms) → cond b (cond b t terms01) terms01 ≡ cond b t terms01
  go true t = refl
  go false t = refl

plain-terms : (s : List ℕ) → states s ≡ false → terms_of s ≡ terms01
unfolding terms_of
plain-terms s e = rw e

module _ (s : List ℕ) (accepted : Passes (interval_order s)) where
  parts : Passes (placed 0 (head_checks s)) × Passes (own_order s)
  unfolding interval_order
  parts = append-passes (placed 0 (head_checks s)) (own_order s) accepted

  pub head_of : HeadPassed s
  head_of = head_passed s (passes-placed 0 (head_checks s) parts.0)

  pub few : row_count s ≤ 256
  few = rows_few (head_at s) head_of.ok

  passed : (j : ℕ) → j < row_count s → Passed (terms_of s) s (row_start s j) (previous (own_id s) j)
  passed = rows-passed (terms_of s) s (rows_from s) row_size (row_count s) parts.1

  -- the rows as contents hold them
  abbrev rows : List Row
  rows = table 256 (file_row s)

  pub kept : (j : ℕ) → j < row_count s → get_or rows j zero_row ≡ row_at s (row_start s j)
  kept j l = table_at zero_row 256 (file_row s) j (omega (arith, few)) ∙ rw (lt-ltb j (row_count s) l)

  zero-past : (j : ℕ) → row_count s ≤ j → get_or rows j zero_row ≡ zero_row
  zero-past j m =
      ⊎_elim (λ (l : j < 256). table_at zero_row 256 (file_row s) j l ∙ rw (le-ltb j (row_count s) m))
      (λ (l : 256 ≤ j). table-past zero_row 256 (file_row s) j l) (lt-or-le j 256)

  taken : table (row_count s) (fields_in rows) ≡ table (row_count s) (λ i. record_at row_widths s (row_start s i))
  taken =
      table_same (row_count s) (fields_in rows) (λ i. record_at row_widths s (row_start s i))
      (λ j l. ap row_fields (kept j l) ∙ row-said s (row_start s j))

  kept-id : (j : ℕ) → j < row_count s → id_in rows j ≡ own_id s j
  kept-id j l = ap (λ (r : Row). r.id) (kept j l)

  kept-ok : (j : ℕ) → j < row_count s → row_ok (ruling (form_of s)) (get_or rows j zero_row) ≡ true
  kept-ok j l = rw (kept j l, file-rules s) (passed j l).ok

  pub rules-ok : terms_ok (ruling (form_of s)) ≡ true
  rules-ok = rw (file-rules s) head_of.terms

  pub file-held : Passes (held_order (contents_of s))
  unfolding contents_of
  file-held =
      list-passes (ruling (form_of s)) rows (row_count s) kept-ok
      (λ j l. rw (kept-id j l, previous-same (id_in rows) (own_id s) j (λ i q. kept-id i (omega arith))) (passed j l).above)

  pub file-reading : reading_of s ≡ record { verdict = Accepted (row_count s); contents = contents_of s }
  unfolding reading_of
  file-reading = rw accepted

  pub file-said : (reading_of s).contents ≡ contents_of s
  file-said = ap (λ (r : Reading). r.contents) file-reading

  module _ (bytes : (i : ℕ) → get_or s i 0 < 256) where
    pub file-again : contents_bytes (contents_of s) ≡ s
    unfolding contents_bytes contents_of
    file-again =
        rw (
          taken,
          head-again s bytes head_of.long head_of.whole head_of.mark,
          records-write letter_r row_widths s (rows_from s) (row_count s) bytes (omega (arith, head_of.fits)) (λ j l. (passed j l).mark),
        )
        (sym (take-add (rows_from s) (row_count s * row_size) s) ∙ take_all (row_start s (row_count s)) s (omega (arith, head_of.fits)))

    id-fits : (k : ℕ) → (row_at s k).id < 256 ^ 2
    unfolding row_at
    id-fits k = (record-fits row_widths s k bytes).0

    pub file-in-range : InRange (contents_of s)
    unfolding contents_of
    file-in-range =
        record {
          head = head_of.ok;
          terms = rules-ok;
          unstated = plain-terms s;
          rows = kept-ok;
          rising = λ j l. omega (arith, kept-id j (omega arith), kept-id (j + 1) l, previous-next (own_id s) j, (passed (j + 1) l).above);
          held = table-length 256 (file_row s);
          ids = λ j. ⊎_elim (λ (l : j < row_count s). omega (arith, kept-id j l, id-fits (row_start s j)))
              (λ (m : row_count s ≤ j). omega (arith, none j m)) (lt-or-le j (row_count s));
          past = zero-past;
        }
      where
        none : (j : ℕ) → row_count s ≤ j → id_in rows j ≡ 0
        none j m = ap (λ (r : Row). r.id) (zero-past j m)
