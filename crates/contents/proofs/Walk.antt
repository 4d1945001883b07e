-- How far the loops of the writer, of the reader and of the rewriter have come, and what they end with.
--   Checked   the rows so far have no fault by 6 and 7; check-start, -next, -stops, -ends: its steps
--   Placed    the bytes of the rows so far stand in the buffer; place-start, -next, -ends: its steps; held_next, -ends: for the rows of contents
--   Filled    the rows so far are the file's, and zero rows past them; fill_start, -next, -ends: its steps
use mathlib.Core.Path.{◌≡◌, refl, sym, ap, ◌∙◌}
use mathlib.Core.Bool.{cond}
use mathlib.Core.Logic.{⊎_elim}
use mathlib.Core.List.{List}
use Prim.Native.Nat.{ℕ, ◌+◌, ◌*◌, ◌≤◌, ◌<◌}
use native.Mathlib.Omega.{arith}
use lib.Dec.{ltb}
use lib.ListN.{length, get_or, set, length-set}
use lib.Seq.{get_or-set_other}
use borrow.Author.Tests.{lt-ltb, le-ltb}
use Rattle.columns.specs.Table.{table, Below}
use Rattle.columns.specs.Test.{first_of}
use Rattle.columns.specs.Checks.{first_refusal, row_by_row, previous}
use Rattle.columns.proofs.Sum.{lt-or-le}
use Rattle.columns.proofs.Table.{table-length, table_at, table-past, table_is}
use Rattle.columns.proofs.Table as tables
use Rattle.columns.proofs.Checks.{Passes, previous-none, previous-next, rows_none, rows_next, rows-stop}
use Rattle.records.specs.Buffer.{put}
use Rattle.records.specs.Record.{record_bytes}
use Rattle.records.specs.Sheet.{sheet}
use Rattle.records.proofs.Sheet.{sheet-none, sheet-next, sheet-length}
use Rattle.files.specs.Layout.{letter_r, row_widths, row_size, head_at, row_at, row_count}
use Rattle.files.specs.Form.{ruling, form_of, start_of, rows_from, row_start}
use Rattle.files.specs.Order.{row_checks, verdict}
use Rattle.files.specs.declared.Form.{Form}
use Rattle.files.specs.declared.Head.{Head}
use Rattle.files.specs.declared.Row.{Row}
use Rattle.files.specs.declared.Terms.{Terms}
use Rattle.files.specs.Verdict.{Accepted, Refused}
use Rattle.files.proofs.Walked.{start-told}
use Rattle.contents.specs.Content.{zero_row, contents_of, fields_in, row_place, with_rows, id_in, row_checks_in, held_order}
use Rattle.contents.specs.declared.Contents.{Contents}

pub record Checked (c : Contents) (last i : ℕ) : Type 0 where
  pub short : i ≤ c.head.rows
  pub before : last ≡ previous (id_in c.rows) i
  pub passes : Passes (row_by_row i (row_checks_in (ruling c.form) c.rows))

pub check-start : (c : Contents) → Checked c 0 0
check-start c =
    record { short = omega arith; before = sym (previous-none (id_in c.rows)); passes = rows_none (row_checks_in (ruling c.form) c.rows) }

module _ (c : Contents) (last i f : ℕ) (t : Terms) (w : Checked c last i) (l : i < c.head.rows) (e : t ≡ ruling c.form)
    (told : f ≡ first_of (row_checks t (get_or c.rows i zero_row) last)) where
  -- the number that the code has for row i is that of its checks
  row_told : f ≡ first_of (row_checks_in (ruling c.form) c.rows i)
  unfolding row_checks_in
  row_told = rw (← e, ← w.before) told

  pub check-next : f ≡ 0 → Checked c (id_in c.rows i) (i + 1)
  unfolding row_checks_in row_checks
  check-next z =
      record {
        short = omega arith;
        before = sym (previous-next (id_in c.rows) i);
        passes = rows_next (row_checks_in (ruling c.form) c.rows) i tt w.passes (sym row_told ∙ z);
      }

  pub check-stops : (f ≡ 0 → ⊥) → Refused f (i + 1) ≡ verdict c.head.rows (first_refusal (held_order c))
  check-stops z =
      rw (rows-stop (row_checks_in (ruling c.form) c.rows) c.head.rows i f l w.passes row_told z)

pub check-ends : (c : Contents) (last i : ℕ) → Checked c last i → c.head.rows ≤ i
    → Accepted c.head.rows ≡ verdict c.head.rows (first_refusal (held_order c))
check-ends c last i w l =
    let e : i ≡ c.head.rows = omega (arith, w.short) in
    rw (rw e at w.passes)

-- f has the fields of the rows: those that contents hold, or those of a file; the first goes to byte `start`
pub record Placed (l₀ : List ℕ) (start : ℕ) (f : ℕ → List ℕ) (count : ℕ) (l : List ℕ) (i : ℕ) : Type 0 where
  pub full : (k : ℕ) → length (f k) ≡ length row_widths
  pub short : i ≤ count
  pub long : length l ≡ length l₀
  pub is : l ≡ sheet start letter_r row_widths l₀ i f

pub place-start : (l₀ : List ℕ) (start : ℕ) (f : ℕ → List ℕ) (count : ℕ) → ((k : ℕ) → length (f k) ≡ length row_widths)
    → Placed l₀ start f count l₀ 0
place-start l₀ start f count full =
    record { full = full; short = omega arith; long = refl; is = sym (sheet-none start letter_r row_widths l₀ f) }

pub place-next : (l₀ : List ℕ) (start : ℕ) (f : ℕ → List ℕ) (count : ℕ) (l : List ℕ) (i : ℕ) (l' : List ℕ)
    → Placed l₀ start f count l i → i < count → start + count * row_size ≤ length l₀
    → l' ≡ put l (start + i * row_size) (record_bytes letter_r row_widths (f i)) → Placed l₀ start f count l' (i + 1)
place-next l₀ start f count l i l' w h room p =
    let is : l' ≡ sheet start letter_r row_widths l₀ (i + 1) f =
    p ∙ rw w.is (sheet-next start letter_r row_widths l₀ i f w.full (omega arith)) in
    record {
      full = w.full;
      short = omega arith;
      long = rw is (sheet-length start letter_r row_widths l₀ (i + 1) f w.full (omega arith));
      is = is;
    }

pub place-ends : (l₀ : List ℕ) (start : ℕ) (f : ℕ → List ℕ) (count : ℕ) (l : List ℕ) (i : ℕ) → Placed l₀ start f count l i → count ≤ i
    → l ≡ sheet start letter_r row_widths l₀ count f
place-ends l₀ start f count l i w h =
    let e : i ≡ count = omega (arith, w.short) in
    rw (← e) w.is

-- the rows of contents, whose first goes where the code says
module _ (c : Contents) (l₀ : List ℕ) (start : ℕ) (l : List ℕ) (i : ℕ) (from : start ≡ start_of c.form.stated)
    (w : Placed l₀ start (fields_in c.rows) c.head.rows l i) where
  pub held_next : (l' : List ℕ) → i < c.head.rows → row_place c c.head.rows ≤ length l₀
      → l' ≡ put l (start + i * row_size) (record_bytes letter_r row_widths (fields_in c.rows i))
      → Placed l₀ start (fields_in c.rows) c.head.rows l' (i + 1)
  held_next l' h room p = place-next l₀ start (fields_in c.rows) c.head.rows l i l' w h (omega arith) p

  pub held-ends : c.head.rows ≤ i → l ≡ with_rows c l₀
  held-ends h = rw (← from) (place-ends l₀ start (fields_in c.rows) c.head.rows l i w h)

-- row i of the contents of a file
abbrev pub file_row : List ℕ → ℕ → Row
file_row s i = cond (ltb i (row_count s)) (row_at s (row_start s i)) zero_row

pub record Filled (s : List ℕ) (start count : ℕ) (rows : List Row) (i : ℕ) : Type 0 where
  pub from : start ≡ rows_from s
  pub counted : count ≡ row_count s
  pub few : count ≤ 256
  pub room : start + count * row_size ≤ length s
  pub short : i ≤ count
  pub held : length rows ≡ 256
  pub so_far : Below i (λ k. get_or rows k zero_row ≡ row_at s (row_start s k))
  pub past : (k : ℕ) → i ≤ k → get_or rows k zero_row ≡ zero_row

zeros : (k : ℕ) → get_or (table 256 (λ i. zero_row)) k zero_row ≡ zero_row
zeros k =
    ⊎_elim (λ (l : k < 256). table_at zero_row 256 (λ i. zero_row) k l) (λ (m : 256 ≤ k). table-past zero_row 256 (λ i. zero_row) k m)
    (lt-or-le k 256)

pub fill_start : (s : List ℕ) (f : Form) (start : ℕ) (h : Head) (rows : List Row) → f ≡ form_of s → start ≡ start_of f.stated → h ≡ head_at s
    → row_count s ≤ 256 → row_start s (row_count s) ≤ length s → rows ≡ table 256 (λ i. zero_row) → Filled s start h.rows rows 0
fill_start s f start h rows g o e few room z =
    let n : h.rows ≡ row_count s = ap (λ (x : Head). x.rows) e in
    let b : start ≡ rows_from s = start-told s f start g o in
    record {
      from = b;
      counted = n;
      few = omega arith;
      room = omega arith;
      short = omega arith;
      held = rw z (table-length 256 (λ i. zero_row));
      so_far = λ k l. absurd (omega arith);
      past = λ k l. rw z (zeros k);
    }

pub fill-next : (s : List ℕ) (start count : ℕ) (rows : List Row) (i : ℕ) (r : Row) → Filled s start count rows i → i < count
    → r ≡ row_at s (start + i * row_size) → Filled s start count (set rows i r) (i + 1)
fill-next s start count rows i r w l e =
    record {
      from = w.from;
      counted = w.counted;
      few = w.few;
      room = w.room;
      short = omega arith;
      held = length-set rows i r ∙ w.held;
      so_far = tables.fill-next zero_row rows i r (λ k. row_at s (row_start s k)) (omega (arith, w.held, w.few)) (rw (← w.from) e) w.so_far;
      past = λ k m. get_or-set_other rows i k r zero_row (omega arith) ∙ w.past k (omega arith);
    }

pub fill-ends : (s : List ℕ) (start count : ℕ) (rows : List Row) (i : ℕ) (f : Form) (h : Head) → Filled s start count rows i → f ≡ form_of s
    → h ≡ head_at s → count ≤ i → ◌≡◌ {A = Contents} (record { form = f; head = h; rows = rows }) (contents_of s)
unfolding contents_of
fill-ends s start count rows i f h w g e l =
    let is : rows ≡ table 256 (file_row s) =
    table_is zero_row rows 256 (file_row s) w.held
    (λ k q.
    ⊎_elim
    (λ (m : k < i). rw (lt-ltb k (row_count s) (omega (arith, w.short, w.counted))) (w.so_far k m))
    (λ (m : i ≤ k). rw (le-ltb k (row_count s) (omega (arith, w.counted))) (w.past k m))
    (lt-or-le k i)) in
    rw (is, e, g)
