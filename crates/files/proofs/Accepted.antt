-- What an accepted pair of files is known to be.
--   accepted-count, accepted-length, accepted-few      its count of rows is the head's, its length is by that count, there are at most 256
--   accepted-known, accepted-whole, accepted-long      its mark is known, and its head is there
--   accepted-head-ok, accepted-row-ok      the head and each row of the interval are in their ranges
--   accepted-sound      its terms are sound
--   accepted-rows       the interval's rows are there, with ids that rise
--   Corrected           what is known of the correction's rows; there are none if there is no correction
use mathlib.Core.Path.{◌≡◌, refl, sym}
use mathlib.Core.Logic.{⊎_elim}
use Prim.Native.Nat.{ℕ, ◌≤◌, ◌<◌}
use mathlib.Core.Bool.{true, false, not, cond}
use mathlib.Core.List.{List, [], ◌∷◌}
use native.Mathlib.Omega.{arith}
use lib.Dec.{eqb, lit<}
use lib.ListN.{length}
use borrow.Author.Tests.{not-false, ne_eqb}
use Rattle.records.specs.Number.{number_at}
use Rattle.columns.specs.Checks.{check, refusal, row_by_row, renumbered}
use Rattle.columns.proofs.Checks.{Passes, cons-passes, append-passes, passes-renumbered, rows-each}
use Rattle.columns.proofs.First.{none-applies}
use Rattle.columns.proofs.Sum.{lt-or-le}
use Rattle.records.specs.Record.{fields_at, record_at}
use Rattle.files.specs.Layout.{head_size, row_size, correction_head_size, row_at}
use Rattle.files.specs.Layout.{correction_start, head_at, correction_head_at, row_count, correction_count}
use Rattle.files.specs.Terms.{Sound}
use Rattle.files.specs.Form.{known, terms_of, rows_from, row_start}
use Rattle.files.specs.Range.{head_ok, row_ok}
use Rattle.files.specs.Walk.{Rows, Own}
use Rattle.files.specs.Order.{their_order, interval_order, correction_starts, correction_order, same_time, corrects}
use Rattle.files.specs.Order.{name_checks, beside_order, present_order, file_order, file_fault, verdict_of}
use Rattle.files.specs.Verdict.{Accepted}
use Rattle.files.proofs.Answer.{accepted-of}
use Rattle.files.proofs.Passed.{rows-passed, rows-sound}
use Rattle.files.proofs.Named.{own-head, own-rows, passed-own, starts-long, starts-ok}
use Rattle.files.proofs.Ranges.{head-ranges, sound-of, correction-few}

module _ (s k : List ℕ) (n : ℕ) (h : verdict_of s k ≡ Accepted n) where
  pub accepted-passes : (file_fault s k).applies ≡ false
  unfolding verdict_of
  accepted-passes = (accepted-of (row_count s) n (file_fault s k) h).0

  pub accepted-count : n ≡ row_count s
  unfolding verdict_of
  accepted-count = sym (accepted-of (row_count s) n (file_fault s k) h).1

  parts : Passes (interval_order s) × Passes (cond (eqb (length k) 0) [] (present_order s k))
  unfolding file_order
  parts = append-passes (interval_order s) (cond (eqb (length k) 0) [] (present_order s k)) accepted-passes

  pub accepted-own : Own s n
  accepted-own = rw accepted-count (passed-own s parts.0)

  pub accepted-rows : Rows s (rows_from s) row_size n
  accepted-rows = accepted-own.rows

  pub accepted-length : length s ≡ row_start s n
  accepted-length = rw accepted-count (own-head s parts.0).fits

  pub accepted-known : known s ≡ true
  accepted-known = (own-head s parts.0).mark

  pub accepted-long : head_size ≤ length s
  accepted-long = (own-head s parts.0).long

  pub accepted-whole : rows_from s ≤ length s
  accepted-whole = (own-head s parts.0).whole

  pub accepted-sound : Sound (terms_of s)
  accepted-sound = sound-of (terms_of s) (own-head s parts.0).terms

  pub accepted-head-ok : head_ok (head_at s) ≡ true
  accepted-head-ok = (own-head s parts.0).ok

  pub accepted-few : n ≤ 256
  accepted-few = omega (arith, accepted-count, (head-ranges (head_at s) accepted-head-ok).rows)

  pub accepted-row-ok : (i : ℕ) → i < n → row_ok (terms_of s) (row_at s (row_start s i)) ≡ true
  accepted-row-ok i l =
      (rows-passed (terms_of s) s (rows_from s) row_size (row_count s) (own-rows s parts.0) i (rw (← accepted-count) l)).ok

  -- 8, 9, 10 do not apply to a correction that is present
  present : (length k ≡ 0 → ⊥) → Passes (correction_order (terms_of s) k) × Passes (beside_order s k)
  unfolding present_order
  present z = append-passes (correction_order (terms_of s) k) (beside_order s k) (rw (ne_eqb (length k) 0 z) at parts.1)

-- a correction by itself passes 8: its start is right, and so are its rows
module _ (s k : List ℕ) (e : Passes (correction_order (terms_of s) k)) where
  eight : (not (correction_starts k) ≡ false) × Passes (renumbered 8 (their_order (terms_of s) k))
  unfolding correction_order
  eight =
      cons-passes (refusal (not (correction_starts k)) 8 0)
      (renumbered 8 (their_order (terms_of s) k)) e

  starts : correction_starts k ≡ true
  starts = not-false (correction_starts k) eight.0

  rows : Passes (their_order (terms_of s) k)
  rows = passes-renumbered 8 (their_order (terms_of s) k) eight.1

  their-few : correction_count k ≤ 256
  their-few = correction-few (correction_head_at k) (starts-ok k starts)

-- each of a correction's rows that pass 10 corrects one of the interval's
names-each : (s k : List ℕ) → Passes (beside_order s k) → (j : ℕ) → j < correction_count k → corrects s (row_at k (correction_start j)) ≡ true
unfolding beside_order name_checks
names-each s k h j l =
    let ten = (cons-passes (refusal (not (same_time s k)) 9 0) (row_by_row (correction_count k) (name_checks s k)) h).1 in
    not-false (corrects s (row_at k (correction_start j)))
    (none-applies (check false 0) (name_checks s k j) tt (rows-each (name_checks s k) (correction_count k) j ten l) 0 (lit< tt))

-- without a correction there are no rows of one
none_named : (k : List ℕ) → length k ≡ 0 → correction_count k ≡ 0
unfolding correction_head_at record_at fields_at number_at
none_named [] e = refl
none_named (x ∷ k) e = absurd (omega arith)

pub record Corrected (s k : List ℕ) (m : ℕ) : Type 0 where
  pub rows : Rows k correction_head_size row_size m
  pub few : m ≤ 256
  pub ok : (j : ℕ) → j < m → row_ok (terms_of s) (row_at k (correction_start j)) ≡ true
  pub names : (j : ℕ) → j < m → corrects s (row_at k (correction_start j)) ≡ true

pub accepted-corrected : (s k : List ℕ) (n : ℕ) → verdict_of s k ≡ Accepted n → Corrected s k (correction_count k)
accepted-corrected s k n h = ⊎_elim there absent (lt-or-le 0 (length k)) where
  there : 0 < length k → Corrected s k (correction_count k)
  there p =
      let both = present s k n h (λ (z : length k ≡ 0). omega arith) in
      let passes = rows s k both.0 in
      record {
        rows = rows-sound (terms_of s) k correction_head_size row_size (correction_count k) passes (omega arith) (omega (arith, starts-long k (starts s k both.0)));
        few = their-few s k both.0;
        ok = λ j l. (rows-passed (terms_of s) k correction_head_size row_size (correction_count k) passes j l).ok;
        names = names-each s k both.1;
      }

  absent : length k ≤ 0 → Corrected s k (correction_count k)
  absent p =
      let z : length k ≡ 0 = omega arith in
      rw (none_named k z)
      (record {
        rows = record { wide = omega arith; inside = λ i l. absurd (omega arith); rising = λ i j l m. absurd (omega arith) };
        few = omega arith;
        ok = λ j l. absurd (omega arith);
        names = λ j l. absurd (omega arith);
      })

pub accepted-theirs : (s k : List ℕ) (n : ℕ) → verdict_of s k ≡ Accepted n → Rows k correction_head_size row_size (correction_count k)
accepted-theirs s k n h = (accepted-corrected s k n h).rows
