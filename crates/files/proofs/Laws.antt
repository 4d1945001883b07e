-- What callers may use of a pair of files, by its verdict alone.
--   accepted-count      the count that is accepted is the head's
--   accepted-length     the interval file is a head and n rows long
--   accepted-long, accepted-whole      its head is there, by the fields that all heads share and by its own mark
--   accepted-few        n is at most 256
--   accepted-sound      its terms are sound
--   accepted-head       the head's fields are in their ranges
--   accepted-row        every row that counts is in its ranges
--   accepted-ranges     the same as plain facts
--   counting-id         the row that counts has the interval row's id
--   counting-alike      and its kind, capacity, offered, minimum and bids: only metered and status may differ
--   ids-rise            ids of the interval's rows rise strictly
--   counting-rise       and so do those of the rows that count
--   counting-whole      the bytes that count for an id are a row's 21, if the pair is accepted and the interval has the id ..
--   counting-nobody, counting-refused     .. and else there are none
--   source-at           what a column of sources has at row i
--   no_source           without a correction every row that counts is the interval's own
--   row-ranges, head-ranges (Ranges.antt)      a row, a head in its ranges as a record of facts
--   zero-none, none-zero, number-earliest, earliest-number (Answer.antt)
--                       number 0 is given exactly if no check applies, number a ≠ 0 and place p exactly if the first that applies has them
use mathlib.Core.Path.{◌≡◌, refl, sym, ap, ◌∙◌}
use mathlib.Core.Logic.{⊎_elim}
use Prim.Native.Nat.{ℕ, ◌+◌, ◌*◌, ◌≤◌, ◌<◌}
use mathlib.Core.Bool.{Bool, true, false, cond}
use mathlib.Core.List.{List, []}
use native.Mathlib.Omega.{arith}
use lib.Dec.{ltb}
use lib.ListN.{length, get_or, drop, length-drop}
use lib.Seq.{length-take-le}
use borrow.Author.Tests.{ltb-true, lt-ltb, le-ltb, eq-eqb, ne_eqb}
use Rattle.columns.specs.Table.{table}
use Rattle.records.specs.Buffer.{put}
use Rattle.columns.proofs.Table.{table-length, table_at}
use Rattle.records.proofs.Buffer.{put-inside}
use Rattle.columns.proofs.First.{left-true, right-true}
use Rattle.columns.proofs.Rank.{find-is}
use Rattle.columns.proofs.Sum.{lt-or-le}
use Rattle.files.specs.Layout.{row_size, correction_head_size, row_at, correction_start}
use Rattle.files.specs.Layout.{head_at, row_count, correction_count}
use Rattle.files.specs.Form.{terms_of, rows_from, row_start}
use Rattle.files.specs.Range.{row_ok}
use Rattle.files.specs.Walk.{own_id, has_id, find_id, in_interval, in_correction, Rows, Own}
use Rattle.files.specs.Order.{alike, corrects, verdict_of}
use Rattle.files.specs.Counting.{part, named, counting_bytes, source_of, counting_row}
use Rattle.files.specs.declared.Row.{Row}
use Rattle.files.specs.Verdict.{Accepted, Refused}
use Rattle.files.proofs.Accepted.{accepted-passes, accepted-own, accepted-head-ok, accepted-row-ok, accepted-rows, accepted-corrected}
use Rattle.files.proofs.Found.{find-has}
use Rattle.files.proofs.Sourced.{none-there, counting-none}
use Rattle.files.proofs.Ranges.{HeadRanges, head-ranges, RowRanges, row-ranges}
pub use Rattle.files.proofs.Accepted.{accepted-count, accepted-long, accepted-whole, accepted-length, accepted-few, accepted-sound}

-- what holds of the interval's own row, and of the correction's row where it names that one, holds of the row that counts
counted : (s k : List ℕ) (i : ℕ) (P : Row → Type 0)
    → (in_correction k (own_id s i) < correction_count k → P (row_at k (correction_start (in_correction k (own_id s i)))))
    → P (row_at s (row_start s i)) → P (counting_row s k i)
unfolding counting_row
counted s k i P theirs own = go (ltb j (correction_count k)) refl where
  j : ℕ
  j = in_correction k (own_id s i)

  go : (t : Bool) → ltb j (correction_count k) ≡ t
      → P (cond (ltb j (correction_count k)) (row_at k (correction_start j)) (row_at s (row_start s i)))
  go true q = rw q (theirs (ltb-true j (correction_count k) q))
  go false q = rw q own

pub counting-id : (s k : List ℕ) (i : ℕ) → (counting_row s k i).id ≡ (row_at s (row_start s i)).id
counting-id s k i =
    counted s k i (λ (r : Row). r.id ≡ (row_at s (row_start s i)).id)
    (λ l. find-has k correction_head_size row_size (correction_count k) (own_id s i) l) refl

alike_self : (r : Row) → alike r r ≡ true
unfolding alike
alike_self r =
    rw (
      eq-eqb r.id r.id refl,
      eq-eqb r.kind r.kind refl,
      eq-eqb r.capacity r.capacity refl,
      eq-eqb r.offered r.offered refl,
      eq-eqb r.minimum.0 r.minimum.0 refl,
      eq-eqb r.bid1.0 r.bid1.0 refl,
      eq-eqb r.bid2.0 r.bid2.0 refl,
    )

-- a row is found by its id
own-found : (s : List ℕ) (n i : ℕ) → Own s n → i < n → in_interval s (own_id s i) ≡ i
unfolding find_id has_id
own-found s n i own l =
    rw (← own.told)
    (find-is n (has_id s (rows_from s) row_size (own_id s i)) i l (eq-eqb (own_id s i) (own_id s i) refl)
    (λ x m. ne_eqb (own_id s x) (own_id s i)
    (λ (q : own_id s x ≡ own_id s i). omega (arith, own.rows.rising x i m l))))

-- a row that corrects, of row i's id, is like row i
corrects-own : (s : List ℕ) (n i : ℕ) (r : Row) → Own s n → i < n → r.id ≡ own_id s i → corrects s r ≡ true
    → alike (row_at s (row_start s i)) r ≡ true
unfolding corrects
corrects-own s n i r own l e h =
    let found : find_id s (rows_from s) row_size (row_count s) r.id ≡ i = rw e (own-found s n i own l) in
    right-true (ltb i (row_count s)) (alike (row_at s (row_start s i)) r) (rw found at h)

module _ (s k : List ℕ) (n : ℕ) (h : verdict_of s k ≡ Accepted n) where
  pub accepted-head : HeadRanges (head_at s)
  accepted-head = head-ranges (head_at s) (accepted-head-ok s k n h)

  pub ids-rise : (i j : ℕ) → i < j → j < n → (row_at s (row_start s i)).id < (row_at s (row_start s j)).id
  ids-rise i j l m = (accepted-rows s k n h).rising i j l m

  module _ (i : ℕ) (l : i < n) where
    pub accepted-row : row_ok (terms_of s) (counting_row s k i) ≡ true
    accepted-row =
        counted s k i (λ (r : Row). row_ok (terms_of s) r ≡ true) (λ m. (accepted-corrected s k n h).ok _ m) (accepted-row-ok s k n h i l)

    pub accepted-ranges : RowRanges (terms_of s) (counting_row s k i)
    accepted-ranges = row-ranges (terms_of s) (counting_row s k i) accepted-row

    pub counting-alike : alike (row_at s (row_start s i)) (counting_row s k i) ≡ true
    counting-alike =
        counted s k i (λ (r : Row). alike (row_at s (row_start s i)) r ≡ true)
        (λ m. corrects-own s n i (row_at k (correction_start (in_correction k (own_id s i)))) (accepted-own s k n h) l
        (find-has k correction_head_size row_size (correction_count k) (own_id s i) m) ((accepted-corrected s k n h).names _ m))
        (alike_self (row_at s (row_start s i)))

  pub counting-rise : (i j : ℕ) → i < j → j < n → (counting_row s k i).id < (counting_row s k j).id
  counting-rise i j l m = rw (counting-id s k i, counting-id s k j) (ids-rise i j l m)

-- ---- the bytes that count for an id

pub counting-refused : (s k : List ℕ) (id a p : ℕ) → verdict_of s k ≡ Refused a p → length (counting_bytes s k id) ≡ 0
counting-refused s k id a p h = ap length (sym (counting-none s k id (verdict_of s k) refl a p h))

-- one of n rows has all its bytes
part-whole : (s : List ℕ) (start size n i : ℕ) → Rows s start size n → i < n → length (part size s (start + i * size)) ≡ size
part-whole s start size n i rows l =
    length-take-le size (drop (start + i * size) s) (omega (arith, rows.inside i l, length-drop (start + i * size) s))

module _ (s k : List ℕ) (n id : ℕ) (h : verdict_of s k ≡ Accepted n) where
  pub counting-whole : (i : ℕ) → i < n → own_id s i ≡ id → length (counting_bytes s k id) ≡ row_size
  unfolding counting_bytes named
  counting-whole i l e = rw (accepted-passes s k n h) (go (ltb j m) refl) where
    m : ℕ
    m = correction_count k

    j : ℕ
    j = in_correction k id

    found : in_interval s id ≡ i
    found = rw (← e) (own-found s n i (accepted-own s k n h) l)

    go : (t : Bool) → ltb j m ≡ t
        → length (cond (ltb j m) (part row_size k (correction_start j)) (cond (ltb (in_interval s id) (row_count s)) (part row_size s (row_start s (in_interval s id))) [])) ≡ row_size
    go true q = rw q (part-whole k correction_head_size row_size m j (accepted-corrected s k n h).rows (ltb-true j m q))
    go false q =
        rw (q, found, lt-ltb i (row_count s) (omega (arith, accepted-count s k n h))) (part-whole s (rows_from s) row_size n i (accepted-rows s k n h) l)

  module _ (nobody : (i : ℕ) → i < n → own_id s i ≡ id → ⊥) where
    not_own : in_interval s id < row_count s → ⊥
    not_own l =
        nobody (in_interval s id) (omega (arith, accepted-count s k n h)) (find-has s (rows_from s) row_size (row_count s) id l)

    -- nor does the correction name it: each of its rows corrects one of the interval's
    not-theirs : in_correction k id < correction_count k → ⊥
    unfolding corrects
    not-theirs l =
        let row = row_at k (correction_start (in_correction k id)) in
        let there = left-true (ltb (in_interval s row.id) (row_count s)) _ ((accepted-corrected s k n h).names _ l) in
        not_own (ltb-true (in_interval s id) (row_count s) (rw (find-has k correction_head_size row_size (correction_count k) id l) at there))

    pub counting-nobody : length (counting_bytes s k id) ≡ 0
    unfolding counting_bytes named
    counting-nobody =
        rw (
          accepted-passes s k n h,
          le-ltb (in_correction k id) (correction_count k) (not-below not-theirs),
          le-ltb (in_interval s id) (row_count s) (not-below not_own),
        )
      where
        not-below : {x y : ℕ} → (x < y → ⊥) → y ≤ x
        not-below {x} {y} f = ⊎_elim (λ (l : x < y). absurd (f l)) (λ (l : y ≤ x). l) (lt-or-le x y)

-- a column that was put in front of a buffer, read at row i
pub source-at : (out : List ℕ) (n : ℕ) (f : ℕ → ℕ) (i : ℕ) → i < n → get_or (put out 0 (table n f)) i 0 ≡ f i
source-at out n f i l =
    let e : 0 + i ≡ i = omega arith in
    (rw e at (put-inside out 0 (table n f) i 0 (omega arith) (omega (arith, table-length n f)))) ∙ table_at 0 n f i l

pub no_source : (s k : List ℕ) (n i : ℕ) → verdict_of s k ≡ Accepted n → length k ≡ 0 → 0 ≡ source_of s k i
unfolding source_of
no_source s k n i h e =
    let none : 0 ≡ correction_count k = none-there k (correction_count k) (accepted-corrected s k n h).rows (omega arith) in
    rw (le-ltb (in_correction k (own_id s i)) (correction_count k) (omega arith))
