-- The writer's refusals: 3, 14, then 6 and 7 row by row, then 11, as one ordered list of checks.
--   number-zero, zero_number           the answer's number is 0 exactly if no check applies
--   number-earliest, earliest-number   it is a ≠ 0 with place p exactly if the first check that applies has them
--   writer-numbers                     every number of the list is a number of refusal
--   head-refuses, terms-refuse, rows-refuse, room-decides      what refuses, as far as the checks have come
--   writer-passed, in-range-passes     contents that nothing refuses: what that gives, and contents in range are such
--   unwritten_of, written-of           what an answer says of the list
use mathlib.Core.Path.{◌≡◌, refl, ap, ◌∙◌}
use mathlib.Core.Bool.{true, false, not}
use mathlib.Core.List.{List, [], ◌∷◌, ◌++◌}
use Prim.Native.Nat.{ℕ, zero, suc, ◌≤◌, ◌<◌}
use native.Mathlib.Numerals.{add-one}
use native.Mathlib.Omega.{arith}
use borrow.Author.Tests.{not-false, le-ltb, lt-leb, ltb-false}
use lib.Dec.{T, ltb}
use lib.ListN.{get_or}
use Rattle.columns.specs.Test.{Check, first_of}
use Rattle.columns.specs.Checks.{Refusal, refusal, none, first_refusal, row_by_row, previous, numbers_in, last_number, Earliest, NoneApplies, Tells}
use Rattle.columns.proofs.First.{numbered}
use Rattle.columns.proofs.Checks.{Passes, cons-passes, append-first, append-next, append-passes, rows_none, rows_next}
use Rattle.columns.proofs.Checks as checks
use Rattle.files.specs.Form.{ruling}
use Rattle.files.specs.Range.{head_ok, terms_ok, row_ok}
use Rattle.files.specs.Order.{row_checks}
use Rattle.files.specs.declared.Row.{Row}
use Rattle.files.specs.declared.Terms.{Terms}
use Rattle.files.proofs.Ranges.{row-ranges}
use Rattle.contents.specs.Content.{zero_row, id_in, row_place, row_checks_in, held_order}
use Rattle.contents.specs.Content.{writer_order, writer_fault, written_of}
use Rattle.contents.specs.InRange.{InRange}
use Rattle.contents.specs.declared.Contents.{Contents}
use Rattle.files.specs.Verdict.{Verdict, Accepted, Refused, number_of, value_of}

-- ---- the first check that applies

-- 11, the list's end
abbrev eleven : Contents → ℕ → List Refusal
eleven c room = refusal (ltb room (row_place c c.head.rows)) 11 0 ∷ []

pub head-refuses : (c : Contents) (room : ℕ) → head_ok c.head ≡ false → writer_fault c room ≡ refusal true 3 0
unfolding writer_order first_refusal
head-refuses c room e = rw e

pub terms-refuse : (c : Contents) (room : ℕ) → head_ok c.head ≡ true → terms_ok (ruling c.form) ≡ false
    → writer_fault c room ≡ refusal true 14 0
unfolding writer_order first_refusal
terms-refuse c room ok e = rw (ok, e)

module _ (c : Contents) (room : ℕ) (ok : head_ok c.head ≡ true) (terms : terms_ok (ruling c.form) ≡ true) where
  rows-next-told : writer_fault c room ≡ first_refusal (held_order c ++ eleven c room)
  unfolding writer_order first_refusal
  rows-next-told = rw (ok, terms)

  pub rows-refuse : (a p : ℕ) → first_refusal (held_order c) ≡ refusal true a p → writer_fault c room ≡ refusal true a p
  rows-refuse a p e = rows-next-told ∙ append-first (held_order c) (eleven c room) (ap (λ (r : Refusal). r.applies) e) ∙ e

  pub room-decides : Passes (held_order c) → writer_fault c room ≡ first_refusal (eleven c room)
  room-decides e = rows-next-told ∙ append-next (held_order c) (eleven c room) e

-- ---- contents that nothing refuses

pub record Writable (c : Contents) (room : ℕ) : Type 0 where
  pub head : head_ok c.head ≡ true
  pub terms : terms_ok (ruling c.form) ≡ true
  pub rows : Passes (held_order c)
  pub roomy : row_place c c.head.rows ≤ room

pub writer-passed : (c : Contents) (room : ℕ) → Passes (writer_order c room) → Writable c room
unfolding writer_order
writer-passed c room h =
    let first = refusal (not (head_ok c.head)) 3 0 in
    let second = refusal (not (terms_ok (ruling c.form))) 14 0 in
    let both = append-passes (first ∷ second ∷ held_order c) (eleven c room) h in
    let front = cons-passes first (second ∷ held_order c) both.0 in
    let next = cons-passes second (held_order c) front.1 in
    record {
      head = not-false (head_ok c.head) front.0;
      terms = not-false (terms_ok (ruling c.form)) next.0;
      rows = next.1;
      roomy = ltb-false room (row_place c c.head.rows) (cons-passes (refusal (ltb room (row_place c c.head.rows)) 11 0) [] both.1).0;
    }

pub passed-writer : (c : Contents) (room : ℕ) → Writable c room → writer_fault c room ≡ none
unfolding first_refusal
passed-writer c room w = room-decides c room w.head w.terms w.rows ∙ rw (le-ltb room (row_place c c.head.rows) w.roomy)

-- rows of which each passes
pub rows_all : (f : ℕ → List Check) (n : ℕ) → ((i : ℕ) → T (numbered (f i))) → ((i : ℕ) → i < n → first_of (f i) ≡ 0) → Passes (row_by_row n f)
rows_all f zero t h = rows_none f
rows_all f (suc n) t h = rw (← add-one n) (rows_next f n (t n) (rows_all f n t (λ i l. h i (omega arith))) (h n (omega arith)))

pub row-passes : (t : Terms) (r : Row) (last : ℕ) → row_ok t r ≡ true → last < r.id → first_of (row_checks t r last) ≡ 0
unfolding row_checks
row-passes t r last ok rises = rw (ok, lt-leb r.id last rises)

pub list-passes : (t : Terms) (rs : List Row) (n : ℕ) → ((i : ℕ) → i < n → row_ok t (get_or rs i zero_row) ≡ true)
    → ((i : ℕ) → i < n → previous (id_in rs) i < id_in rs i) → Passes (row_by_row n (row_checks_in t rs))
unfolding row_checks_in row_checks
list-passes t rs n ok rises =
    rows_all (row_checks_in t rs) n (λ i. tt) (λ i l. row-passes t (get_or rs i zero_row) (previous (id_in rs) i) (ok i l) (rises i l))

module _ (c : Contents) (c-in : InRange c) where
  pub rising-ids : (i : ℕ) → i < c.head.rows → previous (id_in c.rows) i < id_in c.rows i
  unfolding previous
  rising-ids zero l = (row-ranges (ruling c.form) (get_or c.rows 0 zero_row) (c-in.rows 0 l)).id
  rising-ids (suc i) l = rw (add-one i) at (c-in.rising i (omega arith))

  pub in-range-writable : (room : ℕ) → row_place c c.head.rows ≤ room → Writable c room
  in-range-writable room h =
      record { head = c-in.head; terms = c-in.terms; rows = list-passes (ruling c.form) c.rows c.head.rows c-in.rows rising-ids; roomy = h }

-- ---- the answer

apart : (n a p : ℕ) → Refused a p ≡ Accepted n → ⊥
apart n a p e = let z : ◌≡◌ {A = ℕ} 0 1 = cc in omega arith

module _ (c : Contents) (room : ℕ) where
  -- the answer where nothing refuses
  abbrev done : Verdict
  done = Accepted (row_place c c.head.rows)

  tells : Tells Refused done number_of value_of
  tells = record { given = refl; numbers = λ a p. refl; places = λ a p. refl; differs = apart (row_place c c.head.rows) }

  pub unwritten_of : (a p : ℕ) → written_of c room ≡ Refused a p → writer_fault c room ≡ refusal true a p
  unfolding written_of
  unwritten_of = checks.refused-of Refused done number_of value_of tells (writer_fault c room)

  pub written-of : (n : ℕ) → written_of c room ≡ Accepted n → Passes (writer_order c room)
  unfolding written_of
  written-of n h = (checks.accepted-of Refused done (writer_fault c room) (Accepted n) (apart n) h).0

  pub writer-numbers : numbers_in 1 last_number (writer_order c room) ≡ true
  unfolding writer_order row_checks_in row_checks
  writer-numbers =
      checks.numbers-append 1 last_number
      (refusal (not (head_ok c.head)) 3 0 ∷ refusal (not (terms_ok (ruling c.form))) 14 0 ∷ held_order c) (eleven c room)
      (checks.numbers-rows 1 last_number c.head.rows (row_checks_in (ruling c.form) c.rows) (λ i. refl)) refl

  pub number-zero : number_of (written_of c room) ≡ 0 → NoneApplies (writer_order c room)
  unfolding written_of
  number-zero = checks.zero-none Refused done number_of value_of tells (writer_order c room) last_number writer-numbers

  pub zero_number : NoneApplies (writer_order c room) → number_of (written_of c room) ≡ 0
  unfolding written_of
  zero_number = checks.none-zero Refused done number_of value_of tells (writer_order c room) last_number writer-numbers

  pub number-earliest : (a p : ℕ) → (a ≡ 0 → ⊥) → number_of (written_of c room) ≡ a → value_of (written_of c room) ≡ p
      → Earliest (writer_order c room) a p
  unfolding written_of
  number-earliest = checks.number-earliest Refused done number_of value_of tells (writer_order c room) last_number writer-numbers

  pub earliest-number : (a p : ℕ) → Earliest (writer_order c room) a p
      → (number_of (written_of c room) ≡ a) × (value_of (written_of c room) ≡ p)
  unfolding written_of
  earliest-number = checks.earliest-number Refused done number_of value_of tells (writer_order c room) last_number writer-numbers
