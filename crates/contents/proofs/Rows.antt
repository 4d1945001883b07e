-- Records one after the other, and the file that contents make.
--   records-mark      each of the records has its mark
--   records-write     records read from bytes, written again, are the same bytes
--   contents-length   the file that contents make is as long as their form and their head say
--   contents-known, contents-from, contents-terms, contents-form
--                     it has their form: its mark is known, its rows begin where theirs do, it has their terms
--   contents-head, contents-row, contents-row-mark
--                     it has their head, and each row at its place with its mark
use mathlib.Core.Path.{◌≡◌, refl, sym, ap, ◌∙◌}
use mathlib.Core.Bool.{true, false}
use mathlib.Core.List.{List, [], ◌∷◌, ◌++◌, append-nil}
use Prim.Native.Nat.{ℕ, zero, suc, ◌+◌, ◌*◌, ◌≤◌, ◌<◌}
use native.Mathlib.Nat.{add_assoc}
use native.Mathlib.Omega.{arith}
use borrow.Author.Tests.{eq-eqb}
use lib.ListN.{length, get_or, take, drop, length-append}
use lib.Seq.{take-add, drop-drop, drop_at, get_or-drop}
use Rattle.columns.specs.Table.{table, Below}
use Rattle.columns.proofs.Table.{table-length, table_at}
use Rattle.records.specs.Record.{marked, record_size, record_at, record_bytes, records_bytes, Fits}
use Rattle.records.proofs.Record.{record-length, record-write}
use Rattle.records.proofs.Sheet.{records-joined, lines-length, lines-read}
use Rattle.files.specs.Layout.{letter_r, head_widths, row_widths, head_at, head_fields, row_at, row_of}
use Rattle.files.specs.Terms.{terms01}
use Rattle.files.specs.Form.{known, ruling, terms_of, form_of, start_of, rows_from, head_bytes}
use Rattle.files.specs.Range.{terms_ok}
use Rattle.contents.specs.Content.{zero_row, fields_in, row_place, contents_bytes}
use Rattle.contents.specs.declared.Contents.{Contents}
use Rattle.contents.proofs.Headed.{head-length, made-known, made-from, made-head, made-terms, made-form}

-- ---- records

mark-shift : (s : List ℕ) (n k letter : ℕ) → marked (drop n s) k letter ≡ marked s (n + k) letter
mark-shift s n k letter = rw (get_or-drop n s k 0, get_or-drop n s (k + 1) 0, add_assoc n k 1)

-- a mark behind a run of bytes
mark-behind : (a b : List ℕ) (n k letter : ℕ) → length a ≡ n → marked (a ++ b) (n + k) letter ≡ marked b k letter
mark-behind a b n k letter e = sym (mark-shift (a ++ b) n k letter) ∙ ap (λ (s : List ℕ). marked s k letter) (drop_at a b n e)

first-mark : (letter : ℕ) (ws xs b : List ℕ) → marked (record_bytes letter ws xs ++ b) 0 letter ≡ true
unfolding record_bytes
first-mark letter ws xs b = eq-eqb letter letter refl

pub records-mark : (letter : ℕ) (ws : List ℕ) (xss : List (List ℕ)) (k : ℕ) → Below (length xss) (λ i. length (get_or xss i []) ≡ length ws)
    → k < length xss → marked (records_bytes letter ws xss) (k * record_size ws) letter ≡ true
unfolding records_bytes
records-mark letter ws [] k h l = absurd (omega arith)
records-mark letter ws (xs ∷ xss) zero h l =
    let here : 0 * record_size ws ≡ 0 = omega arith in
    rw here (first-mark letter ws xs (records_bytes letter ws xss))
records-mark letter ws (xs ∷ xss) (suc k) h l =
    let there : suc k * record_size ws ≡ record_size ws + k * record_size ws = omega arith in
    rw there
    (mark-behind (record_bytes letter ws xs) (records_bytes letter ws xss) (record_size ws) (k * record_size ws) letter
    (record-length letter ws xs (h 0 (omega arith)))
    ∙ records-mark letter ws xss k (λ i q. h (suc i) (omega arith)) (omega arith))

one-record : (letter : ℕ) (ws xs : List ℕ) → records_bytes letter ws (xs ∷ []) ≡ record_bytes letter ws xs
unfolding records_bytes
one-record letter ws xs = append-nil (record_bytes letter ws xs)

pub records-write : (letter : ℕ) (ws s : List ℕ) (start n : ℕ) → ((i : ℕ) → get_or s i 0 < 256) → start + n * record_size ws ≤ length s
    → Below n (λ i. marked s (start + i * record_size ws) letter ≡ true)
    → records_bytes letter ws (table n (λ i. record_at ws s (start + i * record_size ws))) ≡ take (n * record_size ws) (drop start s)
unfolding table
records-write letter ws s start zero small h marks = let none : 0 * record_size ws ≡ 0 = omega arith in rw none (unfold records_bytes in refl)
records-write letter ws s start (suc n) small h marks =
    let size = record_size ws in
    let last = record_at ws s (start + n * size) in
    let front = table n (λ i. record_at ws s (start + i * size)) in
    let ih = records-write letter ws s start n small (omega arith) (λ i l. marks i (omega arith)) in
    let here : record_bytes letter ws last ≡ take size (drop (n * size) (drop start s)) =
    record-write letter ws s (start + n * size) small (omega arith) (marks n (omega arith))
    ∙ ap (take size) (sym (drop-drop (n * size) start s)) in
    let more : suc n * size ≡ n * size + size = omega arith in
    records-joined letter ws front (last ∷ [])
    ∙ rw (more, ih, one-record letter ws last, here) (sym (take-add (n * size) size (drop start s)))

-- ---- the file that contents make

module _ (c : Contents) where
  -- its rows
  abbrev rows : List ℕ
  rows = records_bytes letter_r row_widths (table c.head.rows (fields_in c.rows))

  rows-length : length rows ≡ c.head.rows * record_size row_widths
  rows-length = lines-length letter_r row_widths c.head.rows (fields_in c.rows) (λ i. refl)

  -- its head
  abbrev head : List ℕ
  head = head_bytes c.form c.head

  pub contents-length : length (contents_bytes c) ≡ row_place c c.head.rows
  unfolding contents_bytes
  contents-length = omega (arith, length-append head rows, head-length c.form c.head, rows-length)

  pub contents-known : known (contents_bytes c) ≡ true
  unfolding contents_bytes
  contents-known = made-known c.form c.head rows

  pub contents-from : rows_from (contents_bytes c) ≡ start_of c.form.stated
  unfolding contents_bytes
  contents-from = made-from c.form c.head rows

  pub contents-terms : terms_ok (ruling c.form) ≡ true → terms_of (contents_bytes c) ≡ ruling c.form
  unfolding contents_bytes
  contents-terms = made-terms c.form c.head rows

  pub contents-form : terms_ok (ruling c.form) ≡ true → (c.form.stated ≡ false → c.form.terms ≡ terms01)
      → form_of (contents_bytes c) ≡ c.form
  unfolding contents_bytes
  contents-form = made-form c.form c.head rows

  pub contents-head : Fits head_widths (head_fields c.head) → head_at (contents_bytes c) ≡ c.head
  unfolding contents_bytes
  contents-head = made-head c.form c.head rows

  pub contents-row-mark : (k : ℕ) → k < c.head.rows → marked (contents_bytes c) (row_place c k) letter_r ≡ true
  unfolding contents_bytes
  contents-row-mark k l =
      let long = table-length c.head.rows (fields_in c.rows) in
      mark-behind head rows (start_of c.form.stated) (k * record_size row_widths) letter_r (head-length c.form c.head)
      ∙ records-mark letter_r row_widths (table c.head.rows (fields_in c.rows)) k
      (λ i q. rw (table_at [] c.head.rows (fields_in c.rows) i (omega arith))) (omega arith)

  pub contents-row : (k : ℕ) → k < c.head.rows → Fits row_widths (fields_in c.rows k)
      → row_at (contents_bytes c) (row_place c k) ≡ get_or c.rows k zero_row
  unfolding contents_bytes row_at
  contents-row k l f =
      ap row_of
      (ap (λ (b : List ℕ). record_at row_widths (head ++ b) (row_place c k)) (sym (append-nil rows))
      ∙ lines-read letter_r row_widths c.head.rows (fields_in c.rows) (λ i. refl) head [] (start_of c.form.stated) k
      (head-length c.form c.head) l f)
