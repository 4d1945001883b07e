-- The writer's and the reader's answers, check by check, as their code comes to them.
--   rows-few-told         a head that passed its test has at most 256 rows
--   count-few             a count that the rows' answer accepted is at most 256
--   answer-3, answer-14, answer-6-7, answer-11, answer-0   the answer where the check of that number applies, and where none does
--   write-room, write-few what an answer of bytes gives: room in the buffer, and at most 256 rows
--   refused-buffer, done-buffer   the writer's buffer, by its answer
--   rows-then-head        the rows, then the head in front of them, are the file
--   read_head, read_whole the head of a file that is as long as it says
--   read-few, read-long   at most 256 rows, all of them there, in a file that is accepted
--   read-refused, read_done     the reader's result, by the file's answer
use mathlib.Core.Path.{◌≡◌, sym, ◌∙◌}
use mathlib.Core.Bool.{Bool, true, false, not}
use mathlib.Core.List.{List}
use Prim.Native.Nat.{ℕ, ◌+◌, ◌*◌, ◌≤◌, ◌<◌}
use native.Mathlib.Omega.{arith}
use borrow.Author.Tests.{not-true, not-false, lt-ltb, le-ltb}
use lib.ListN.{length}
use Rattle.columns.specs.Checks.{first_refusal}
use Rattle.columns.proofs.Checks.{Passes}
use Rattle.records.specs.Buffer.{put}
use Rattle.records.proofs.Sheet.{sheet-head}
use Rattle.files.specs.Layout.{letter_r, head_size, row_widths, row_size, row_count}
use Rattle.files.specs.Form.{ruling, start_of, rows_from, row_start, head_bytes}
use Rattle.files.specs.Range.{head_ok, terms_ok}
use Rattle.files.specs.Order.{interval_order, interval_fault, verdict}
use Rattle.files.specs.declared.Head.{Head}
use Rattle.files.specs.declared.Terms.{Terms}
use Rattle.files.specs.Verdict.{Verdict, Accepted, Refused}
use Rattle.files.proofs.Answer.{accepted-of, refused-of}
use Rattle.files.proofs.Passed.{from-least}
use Rattle.contents.specs.Content.{zero_contents, contents_of, reading_of, fields_in, contents_bytes, with_rows}
use Rattle.contents.specs.Content.{row_place, held_order, written_of, written_buffer}
use Rattle.contents.specs.declared.Contents.{Contents}
use Rattle.contents.proofs.Record.{rows_few}
use Rattle.contents.proofs.Headed.{head-length}
use Rattle.contents.proofs.Refusal.{Writable, head-refuses, terms-refuse, rows-refuse, room-decides, writer-passed, unwritten_of, written-of}
use Rattle.contents.proofs.Said.{head_of, few}

pub rows-few-told : (h : Head) (b : Bool) → b ≡ head_ok h → not b ≡ false → h.rows ≤ 256
rows-few-told h b e t = rows_few h (sym e ∙ not-false b t)

pub answer-3 : (c : Contents) (room : ℕ) (b : Bool) → b ≡ head_ok c.head → not b ≡ true → Refused 3 0 ≡ written_of c room
unfolding written_of
answer-3 c room b e t = rw (head-refuses c room (sym e ∙ not-true b t))

-- the head passed, then the terms by which its form rules
module _ (c : Contents) (b : Bool) (e : b ≡ head_ok c.head) (t : b ≡ true) (rules : Terms) (g : rules ≡ ruling c.form)
    (d : Bool) (f : d ≡ terms_ok rules) where
  ok : head_ok c.head ≡ true
  ok = sym e ∙ t

  pub answer-14 : (room : ℕ) → not d ≡ true → Refused 14 0 ≡ written_of c room
  unfolding written_of
  answer-14 room u = rw (terms-refuse c room ok (rw (← g) (sym f ∙ not-true d u)))

  module _ (u : d ≡ true) (v : Verdict) (p : v ≡ verdict c.head.rows (first_refusal (held_order c))) where
    sound : terms_ok (ruling c.form) ≡ true
    sound = rw (← g) (sym f ∙ u)

    pub answer-6-7 : (room number place : ℕ) → v ≡ Refused number place → Refused number place ≡ written_of c room
    unfolding written_of
    answer-6-7 room number place q =
        rw (rows-refuse c room ok sound number place (refused-of c.head.rows number place (first_refusal (held_order c)) (sym p ∙ q)))

    module _ (count : ℕ) (q : v ≡ Accepted count) where
      passed : Passes (held_order c) × (c.head.rows ≡ count)
      passed = accepted-of c.head.rows count (first_refusal (held_order c)) (sym p ∙ q)

      pub count-few : count ≤ 256
      count-few = omega (arith, rows_few c.head ok, passed.1)

      module _ (start : ℕ) (from : start ≡ start_of c.form.stated) (room : ℕ) where
        pub answer-11 : room < start + count * row_size → Refused 11 0 ≡ written_of c room
        unfolding written_of first_refusal
        answer-11 l =
            rw (room-decides c room ok sound passed.0, passed.1, ← from, lt-ltb room (start + count * row_size) l)

        pub answer-0 : start + count * row_size ≤ room → Accepted (start + count * row_size) ≡ written_of c room
        unfolding written_of first_refusal
        answer-0 l =
            rw (room-decides c room ok sound passed.0, passed.1, ← from, le-ltb room (start + count * row_size) l)

module _ (c : Contents) (out : List ℕ) (w : Verdict) (p : w ≡ written_of c (length out)) where
  pub refused-buffer : (number place : ℕ) → w ≡ Refused number place → out ≡ written_buffer c out
  unfolding written_buffer
  refused-buffer number place q = rw (unwritten_of c (length out) number place (sym p ∙ q))

  module _ (n : ℕ) (q : w ≡ Accepted n) where
    writable : Writable c (length out)
    writable = writer-passed c (length out) (written-of c (length out) n (sym p ∙ q))

    pub write-few : c.head.rows ≤ 256
    write-few = rows_few c.head writable.head

    pub write-room : row_place c c.head.rows ≤ length out
    write-room = writable.roomy

    pub done-buffer : (out' : List ℕ) → out' ≡ put out 0 (contents_bytes c) → out' ≡ written_buffer c out
    unfolding written_buffer
    done-buffer out' e = rw (written-of c (length out) n (sym p ∙ q)) e

pub rows-then-head : (c : Contents) (out l m : List ℕ) → row_place c c.head.rows ≤ length out → l ≡ with_rows c out
    → m ≡ put l 0 (head_bytes c.form c.head) → m ≡ put out 0 (contents_bytes c)
unfolding contents_bytes
rows-then-head c out l m room p q =
    let head = head_bytes c.form c.head in
    let long = head-length c.form c.head in
    let made = sheet-head head letter_r row_widths out c.head.rows (fields_in c.rows) (omega (arith, long)) in
    q ∙ rw p (rw long at made)

-- a file that is as long as its head says has the head
module _ (s : List ℕ) (long : row_start s (row_count s) ≤ length s) where
  pub read_head : head_size ≤ length s
  read_head = omega (arith, from-least s)

  pub read_whole : rows_from s ≤ length s
  read_whole = omega arith

module _ (s : List ℕ) (v : Verdict) (p : v ≡ verdict (row_count s) (interval_fault s)) where
  pub read-refused : (number place : ℕ) (z : Contents) → v ≡ Refused number place → z ≡ zero_contents
      → (v ≡ (reading_of s).verdict) × (z ≡ (reading_of s).contents)
  unfolding reading_of
  read-refused number place z q e = (p, rw (refused-of (row_count s) number place (interval_fault s) (sym p ∙ q)) e)

  module _ (n : ℕ) (q : v ≡ Accepted n) where
    accepted : Passes (interval_order s)
    accepted = (accepted-of (row_count s) n (interval_fault s) (sym p ∙ q)).0

    pub read_done : (c : Contents) → c ≡ contents_of s → (v ≡ (reading_of s).verdict) × (c ≡ (reading_of s).contents)
    unfolding reading_of
    read_done c e = (p, rw accepted e)

    pub read-few : row_count s ≤ 256
    read-few = few s accepted

    pub read-long : row_start s (row_count s) ≤ length s
    read-long = omega (arith, (head_of s accepted).fits)
