-- The checks 1 to 10 and 14 of a pair of files, told once as one ordered list (01, Numbers of refusal; 02, request 6); the answer is the
-- first that applies.
use Rattle.std.specs.Prelude.{ℕ, ◌+◌, ◌*◌, Bool, not, cond, ◌&&◌, List, [], ◌∷◌, ◌++◌, leb, ltb, eqb, length}
use Rattle.columns.specs.Test.{Check}
use Rattle.columns.specs.Checks.{Refusal, check, refusal, first_refusal, placed, row_by_row, previous, renumbered, answer_by}
use Rattle.records.specs.Record.{marked}
use Rattle.files.specs.Layout.{head_size, row_size, correction_head_size, correction_start, letter_r}
use Rattle.files.specs.Layout.{letter_k, head_at, row_at, correction_head_at, row_count, correction_count}
use Rattle.files.specs.Form.{known, terms_of, rows_from, row_start}
use Rattle.files.specs.Range.{head_ok, terms_ok, correction_head_ok, row_ok}
use Rattle.files.specs.Walk.{id_of, in_interval}
use Rattle.files.specs.declared.Row.{Row}
use Rattle.files.specs.declared.Terms.{Terms}
use Rattle.files.specs.Verdict.{Verdict, Accepted, Refused}

-- a head by itself, before 4: 1, 2, once more 1 by the head of the file's own mark, 3, and 14 for the terms that it states
unfoldable pub front_checks : List ℕ → List Check
front_checks s =
    check (ltb (length s) head_size) 1 ∷ check (not (known s)) 2 ∷ check (ltb (length s) (rows_from s)) 1
    ∷ check (not (head_ok (head_at s))) 3 ∷ check (not (terms_ok (terms_of s))) 14 ∷ []

-- then 4: the file is as long as its head and its count of rows say
unfoldable pub head_checks : List ℕ → List Check
head_checks s = front_checks s ++ (check (not (eqb (length s) (row_start s (row_count s)))) 4 ∷ [])

-- 6 and 7: a row's ranges, and its id against the id before it
unfoldable pub row_checks : Terms → Row → ℕ → List Check
row_checks t r last = check (not (row_ok t r)) 6 ∷ check (leb r.id last) 7 ∷ []

-- 5, 6, 7 of the row at position k, after a row of id `last`
unfoldable pub row_checks_at : Terms → List ℕ → ℕ → ℕ → List Check
row_checks_at t s k last = check (not (marked s k letter_r)) 5 ∷ row_checks t (row_at s k) last

-- 5, 6, 7 of row i of those of `size` bytes that begin at byte `start`
unfoldable pub row_checks_of : Terms → List ℕ → ℕ → ℕ → ℕ → List Check
row_checks_of t s start size i = row_checks_at t s (start + i * size) (previous (id_of s start size) i)

-- 5, 6, 7 of each of n rows in turn
abbrev pub rows_order : Terms → List ℕ → ℕ → ℕ → ℕ → List Refusal
rows_order t s start size n = row_by_row n (row_checks_of t s start size)

-- those of an interval's rows, and those of a correction's
abbrev pub own_order : List ℕ → List Refusal
own_order s = rows_order (terms_of s) s (rows_from s) row_size (row_count s)

abbrev pub their_order : Terms → List ℕ → List Refusal
their_order t k = rows_order t k correction_head_size row_size (correction_count k)

-- 1 to 7 and 14: an interval file by itself
unfoldable pub interval_order : List ℕ → List Refusal
interval_order s = placed 0 (head_checks s) ++ own_order s

-- a correction's length, mark and ranges are right
unfoldable pub correction_starts : List ℕ → Bool
correction_starts k =
    leb correction_head_size (length k) && marked k 0 letter_k && correction_head_ok (correction_head_at k)
    && eqb (length k) (correction_start (correction_count k))

-- 8: a correction by itself, head and length before rows; whatever is wrong with a row by itself is 8
unfoldable pub correction_order : Terms → List ℕ → List Refusal
correction_order t k =
    refusal (not (correction_starts k)) 8 0 ∷ renumbered 8 (their_order t k)

-- a correction's day and quarter are the interval's
unfoldable pub same_time : List ℕ → List ℕ → Bool
same_time s k =
    eqb (correction_head_at k).day (head_at s).day && eqb (correction_head_at k).quarter (head_at s).quarter

-- two rows are alike: they differ at most in metered and status
unfoldable pub alike : Row → Row → Bool
alike a b =
    eqb a.id b.id && eqb a.kind b.kind && eqb a.capacity b.capacity && eqb a.offered b.offered
    && eqb a.minimum.0 b.minimum.0 && eqb a.bid1.0 b.bid1.0 && eqb a.bid2.0 b.bid2.0

-- the interval has a row of this id, and both are alike
unfoldable pub corrects : List ℕ → Row → Bool
corrects s r =
    let i = in_interval s r.id in
    ltb i (row_count s) && alike (row_at s (row_start s i)) r

-- 10 of row j of a correction: it corrects no row
unfoldable pub name_checks : List ℕ → List ℕ → ℕ → List Check
name_checks s k j = check (not (corrects s (row_at k (correction_start j)))) 10 ∷ []

-- 9: the times differ; then 10 of each of the correction's rows
unfoldable pub beside_order : List ℕ → List ℕ → List Refusal
beside_order s k = refusal (not (same_time s k)) 9 0 ∷ row_by_row (correction_count k) (name_checks s k)

-- 8, 9, 10: a correction that is present, under the interval's terms
unfoldable pub present_order : List ℕ → List ℕ → List Refusal
present_order s k = correction_order (terms_of s) k ++ beside_order s k

-- 1 to 10 and 14: the pair of files; a correction of length 0 means that there is none
unfoldable pub file_order : List ℕ → List ℕ → List Refusal
file_order s k = interval_order s ++ cond (eqb (length k) 0) [] (present_order s k)

-- what refuses an interval by itself, and a pair of files
abbrev pub interval_fault : List ℕ → Refusal
interval_fault s = first_refusal (interval_order s)

abbrev pub file_fault : List ℕ → List ℕ → Refusal
file_fault s k = first_refusal (file_order s k)

-- a refusal as an answer; with none, so many rows are accepted
abbrev pub verdict : ℕ → Refusal → Verdict
verdict n f = answer_by Refused (Accepted n) f

unfoldable pub verdict_of : List ℕ → List ℕ → Verdict
verdict_of s k = verdict (row_count s) (file_fault s k)
