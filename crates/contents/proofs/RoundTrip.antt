-- The two round trips (demand 2).
--   file-rewritten      an accepted file, read and written into a buffer with room: as many bytes as the file has,
--   file-buffer         they are the file's, nothing past them changes,
--   file-front          so the front of the buffer is the file
--   file-again-bytes, file-again-buffer     the same of reading and writing in one go
--   contents-written    contents in range, written into a buffer with room: as many bytes as their file has,
--   contents-buffer     they are the file that the contents make, nothing past them changes,
--   contents-reread     and reading the front of the buffer gives the contents again
use mathlib.Core.Path.{◌≡◌, refl, ap, ◌∙◌}
use mathlib.Core.Bool.{Bool, true, false}
use mathlib.Core.List.{List}
use Prim.Native.Nat.{ℕ, ◌≤◌, ◌<◌}
use native.Mathlib.Omega.{arith}
use lib.ListN.{length, get_or, take}
use Rattle.columns.specs.Checks.{none, first_refusal, last_number}
use Rattle.columns.proofs.Checks.{Passes, first-number}
use Rattle.records.specs.Buffer.{put}
use Rattle.records.proofs.Buffer.{put-taken}
use Rattle.files.specs.Form.{rows_from}
use Rattle.files.specs.Order.{interval_order}
use Rattle.files.specs.Verdict as file
use Rattle.files.specs.Verdict.{Accepted}
use Rattle.files.proofs.Answer.{interval-numbers}
use Rattle.contents.specs.Content.{contents_of, reading_of, row_place, contents_bytes, writer_fault, written_of, written_buffer, rewritten_of, rewritten_buffer}
use Rattle.contents.specs.InRange.{InRange}
use Rattle.contents.specs.declared.Contents.{Contents}
use Rattle.contents.proofs.Rows.{contents-length}
use Rattle.contents.proofs.Refusal.{passed-writer, in-range-writable}
use Rattle.contents.proofs.Said.{head_of, file-again, file-in-range, file-said}
use Rattle.contents.proofs.Made.{contents-read}

module _ (c : Contents) (c-in : InRange c) (out : List ℕ) (room : row_place c c.head.rows ≤ length out) where
  no-check : writer_fault c (length out) ≡ none
  no-check = passed-writer c (length out) (in-range-writable c c-in (length out) room)

  pub contents-written : written_of c (length out) ≡ Accepted (row_place c c.head.rows)
  unfolding written_of
  contents-written = rw no-check

  pub contents-buffer : written_buffer c out ≡ put out 0 (contents_bytes c)
  unfolding written_buffer
  contents-buffer = rw no-check

  pub contents-reread : reading_of (take (row_place c c.head.rows) (written_buffer c out))
      ≡ record { verdict = Accepted c.head.rows; contents = c }
  contents-reread =
      rw (contents-buffer, ← contents-length c, put-taken out 0 (contents_bytes c) (omega arith)) (contents-read c c-in)

module _ (s : List ℕ) (accepted : file.number_of (reading_of s).verdict ≡ 0) (bytes : (i : ℕ) → get_or s i 0 < 256) where
  passes : Passes (interval_order s)
  unfolding reading_of
  passes = go (first_refusal (interval_order s)).applies refl
    where
      go : (b : Bool) → (first_refusal (interval_order s)).applies ≡ b → Passes (interval_order s)
      go true e = absurd (omega (arith, (first-number 1 last_number (interval_order s) (interval-numbers s) e).0, rw e at accepted))
      go false e = e

  long : length s ≡ row_place (contents_of s) (contents_of s).head.rows
  unfolding contents_of rows_from
  long = (head_of s passes).fits

  module _ (out : List ℕ) (room : length s ≤ length out) where
    pub file-rewritten : written_of (reading_of s).contents (length out) ≡ Accepted (length s)
    file-rewritten = rw (file-said s passes, long) (contents-written (contents_of s) (file-in-range s passes bytes) out (omega (arith, long)))

    pub file-buffer : written_buffer (reading_of s).contents out ≡ put out 0 s
    file-buffer =
        rw (file-said s passes)
        (contents-buffer (contents_of s) (file-in-range s passes bytes) out (omega (arith, long)) ∙ ap (put out 0) (file-again s passes bytes))

    pub file-front : take (length s) (written_buffer (reading_of s).contents out) ≡ s
    file-front = rw file-buffer (put-taken out 0 s (omega arith))

    pub file-again-bytes : rewritten_of s (length out) ≡ Accepted (length s)
    unfolding rewritten_of
    file-again-bytes = rw passes file-rewritten

    pub file-again-buffer : rewritten_buffer s out ≡ put out 0 s
    unfolding rewritten_buffer
    file-again-buffer = rw passes file-buffer
