-- An interval file read and written again row by row, as its code comes to it: what stands is what reading all of it and then writing gives.
--   again-few, again-long, again-head, again-whole      an accepted file: at most 256 rows, all of them there, and the head
--   again-next, again-rows                 a turn of the loop over its rows, and the loop's end
--   again-front                            room for its head
--   again-made                             the rows, then the head in front of them, are the file that its contents make
--   again-refused, again_kept              a file that is refused: the reader's refusal, the buffer as it was
--   again-accepted, again-count, told-head, told-whole      an accepted one, as its verdict tells it
--   again-short, again-left                no room for it: 11, the buffer as it was
--   again-room, again-bytes, again-done    room for it: its length, and the buffer that the writer leaves
use mathlib.Core.Path.{◌≡◌, sym, ap, ◌∙◌}
use mathlib.Core.Bool.{true}
use mathlib.Core.List.{List}
use Prim.Native.Nat.{ℕ, ◌+◌, ◌*◌, ◌≤◌, ◌<◌}
use native.Mathlib.Omega.{arith}
use borrow.Author.Tests.{lt-ltb}
use lib.ListN.{length}
use Rattle.columns.specs.Checks.{refusal, none, first_refusal}
use Rattle.columns.proofs.Checks.{Passes}
use Rattle.records.specs.Buffer.{put}
use Rattle.records.specs.Record.{record_bytes}
use Rattle.records.proofs.Sheet.{sheet-same}
use Rattle.files.specs.Layout.{letter_r, head_size, row_widths, row_size, head_at, row_at, row_fields, row_count}
use Rattle.files.specs.Form.{ruling, form_of, start_of, rows_from, row_start, head_bytes}
use Rattle.files.specs.Range.{head_ok, terms_ok}
use Rattle.files.specs.Order.{interval_order, interval_fault, verdict}
use Rattle.files.specs.declared.Form.{Form}
use Rattle.files.specs.declared.Head.{Head}
use Rattle.files.specs.declared.Row.{Row}
use Rattle.files.specs.Verdict.{Verdict, Accepted, Refused}
use Rattle.files.proofs.Answer.{accepted-of, refused-of}
use Rattle.files.proofs.Walked.{start-told}
use Rattle.contents.specs.Content.{contents_of, fields_from, fields_in, contents_bytes, with_rows, rows_again}
use Rattle.contents.specs.Content.{writer_fault, written_of, written_buffer, rewritten_of, rewritten_buffer}
use Rattle.contents.proofs.Refusal.{room-decides, passed-writer}
use Rattle.contents.proofs.Walk.{Placed, place-next, place-ends}
use Rattle.contents.proofs.Said.{head_of, few, kept, rules-ok, file-held, file-said}
use Rattle.contents.proofs.Answered.{rows-then-head}

-- what an accepted file says: what refuses it as contents, by the room that there is, and its rows
module _ (s : List ℕ) (passes : Passes (interval_order s)) where
  ok : head_ok (contents_of s).head ≡ true
  unfolding contents_of
  ok = (head_of s passes).ok

  rules : terms_ok (ruling (contents_of s).form) ≡ true
  unfolding contents_of
  rules = rules-ok s passes

  short-fault : (room : ℕ) → room < row_start s (row_count s) → writer_fault (contents_of s) room ≡ refusal true 11 0
  unfolding contents_of first_refusal rows_from
  short-fault room l = room-decides (contents_of s) room ok rules (file-held s passes) ∙ rw (lt-ltb room (row_start s (row_count s)) l)

  roomy-fault : (room : ℕ) → row_start s (row_count s) ≤ room → writer_fault (contents_of s) room ≡ none
  unfolding contents_of rows_from
  roomy-fault room l = passed-writer (contents_of s) room (record { head = ok; terms = rules; rows = file-held s passes; roomy = l })

  rows-again : (out : List ℕ) → rows_again s (row_count s) out ≡ with_rows (contents_of s) out
  unfolding contents_of rows_from
  rows-again out =
      sheet-same (rows_from s) letter_r row_widths out (row_count s) (fields_from s) (fields_in (contents_of s).rows)
      (λ j l. ap row_fields (sym (kept s passes j l)))

-- an accepted file of n rows
module _ (s : List ℕ) (n : ℕ) (q : verdict (row_count s) (interval_fault s) ≡ Accepted n) where
  accepted : Passes (interval_order s)
  accepted = (accepted-of (row_count s) n (interval_fault s) q).0

  count : row_count s ≡ n
  count = (accepted-of (row_count s) n (interval_fault s) q).1

  pub again-few : n ≤ 256
  again-few = omega (arith, few s accepted, count)

  pub again-long : row_start s n ≤ length s
  again-long = omega (arith, (head_of s accepted).fits, count)

  pub again-head : head_size ≤ length s
  again-head = (head_of s accepted).long

  pub again-whole : rows_from s ≤ length s
  again-whole = (head_of s accepted).whole

  -- room for the file is room for its head
  pub again-front : (form : Form) (out l : List ℕ) → row_start s n ≤ length out → form ≡ form_of s → length l ≡ length out
      → start_of form.stated ≤ length l
  unfolding rows_from
  again-front form out l room d e = rw d (omega arith)

  pub again-made : (form : Form) (h : Head) (out l m : List ℕ) → row_start s n ≤ length out → form ≡ form_of s → h ≡ head_at s
      → l ≡ rows_again s n out → m ≡ put l 0 (head_bytes form h) → m ≡ put out 0 (contents_bytes (contents_of s))
  again-made form h out l m room d e f g =
      rows-then-head (contents_of s) out l m (unfold contents_of rows_from in omega (arith, count))
      (f ∙ rw (← count) (rows-again s accepted out)) (unfold contents_of in rw (d, e) at g)

pub again-next : (s l₀ : List ℕ) (start n : ℕ) (l : List ℕ) (i : ℕ) (l' : List ℕ) (r : Row) → start ≡ rows_from s
    → Placed l₀ start (fields_from s) n l i → i < n → row_start s n ≤ length l₀ → r ≡ row_at s (start + i * row_size)
    → l' ≡ put l (start + i * row_size) (record_bytes letter_r row_widths (row_fields r)) → Placed l₀ start (fields_from s) n l' (i + 1)
again-next s l₀ start n l i l' r from w h room e p =
    let read : r ≡ row_at s (row_start s i) = e ∙ ap (λ (x : ℕ). row_at s (x + i * row_size)) from in
    place-next l₀ start (fields_from s) n l i l' w h (omega arith) (rw read at p)

pub again-rows : (s l₀ : List ℕ) (start n : ℕ) (l : List ℕ) (i : ℕ) → start ≡ rows_from s → Placed l₀ start (fields_from s) n l i → n ≤ i
    → l ≡ rows_again s n l₀
again-rows s l₀ start n l i from w h = rw (← from) (place-ends l₀ start (fields_from s) n l i w h)

-- a file by its verdict, and the buffer by the room that there is
module _ (s : List ℕ) (v : Verdict) (p : v ≡ verdict (row_count s) (interval_fault s)) where
  pub again-refused : (number place room : ℕ) → v ≡ Refused number place → Refused number place ≡ rewritten_of s room
  unfolding rewritten_of
  again-refused number place room q = rw (refused-of (row_count s) number place (interval_fault s) (sym p ∙ q))

  pub again_kept : (number place : ℕ) (out : List ℕ) → v ≡ Refused number place → out ≡ rewritten_buffer s out
  unfolding rewritten_buffer
  again_kept number place out q = rw (refused-of (row_count s) number place (interval_fault s) (sym p ∙ q))

  module _ (n : ℕ) (q : v ≡ Accepted n) where
    pub again-accepted : verdict (row_count s) (interval_fault s) ≡ Accepted n
    again-accepted = sym p ∙ q

    pub again-count : n ≤ 256
    again-count = again-few s n again-accepted

    pub told-head : head_size ≤ length s
    told-head = again-head s n again-accepted

    pub told-whole : rows_from s ≤ length s
    told-whole = again-whole s n again-accepted

    passes : Passes (interval_order s)
    passes = accepted s n again-accepted

    rows : row_count s ≡ n
    rows = count s n again-accepted

    -- where its rows begin, as the code has it
    module _ (form : Form) (start : ℕ) (g : form ≡ form_of s) (o : start ≡ start_of form.stated) where
      from : start ≡ rows_from s
      from = start-told s form start g o

      pub again-short : (room : ℕ) → room < start + n * row_size → Refused 11 0 ≡ rewritten_of s room
      unfolding rewritten_of written_of
      again-short room l = rw (passes, file-said s passes, short-fault s passes room (omega (arith, rows, from)))

      pub again-left : (out : List ℕ) → length out < start + n * row_size → out ≡ rewritten_buffer s out
      unfolding rewritten_buffer written_buffer
      again-left out l = rw (passes, file-said s passes, short-fault s passes (length out) (omega (arith, rows, from)))

      pub again-room : (room : ℕ) → start + n * row_size ≤ room → row_start s n ≤ room
      again-room room l = omega (arith, from)

      pub again-bytes : (room : ℕ) → start + n * row_size ≤ room → Accepted (start + n * row_size) ≡ rewritten_of s room
      unfolding rewritten_of written_of contents_of rows_from
      again-bytes room l = rw (passes, file-said s passes, roomy-fault s passes room (omega (arith, rows, from)), rows, from)

      pub again-done : (out out' : List ℕ) → start + n * row_size ≤ length out → out' ≡ put out 0 (contents_bytes (contents_of s))
          → out' ≡ rewritten_buffer s out
      unfolding rewritten_buffer written_buffer
      again-done out out' l e = rw (passes, file-said s passes, roomy-fault s passes (length out) (omega (arith, rows, from))) e
