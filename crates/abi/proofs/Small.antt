-- Every answer fits its word: numbers of refusal end at 23, places at 256, and counts of bytes are small.
--   interval-near, file-near, writer-near        places of refusals: of an interval file, of a pair of files, of contents and their buffer
--   answer-packs, written-packs, rewritten-packs     number and value of the engine's answer, of the writer's, of the rewriter's
--   part-short                                   the bytes that count for a row are at most 21
use Prim.Native.Nat.{ℕ, zero, suc, ◌≤◌, ◌<◌, zero-le}
use mathlib.Core.Path.{◌≡◌, refl}
use mathlib.Core.Bool.{Bool, true, false, not, cond, ◌&&◌}
use mathlib.Core.List.{List, [], ◌∷◌, ◌++◌}
use native.Mathlib.Omega.{arith}
use lib.Dec.{leb, ltb, eqb, lit≤}
use lib.ListN.{length, drop, length-take}
use borrow.Author.Tests.{not-false}
use Rattle.columns.specs.Test.{Check}
use Rattle.columns.specs.Checks.{Refusal, refusal, first_refusal, or_else, placed, row_by_row, renumbered, answer_by, numbers_in, last_number}
use Rattle.columns.proofs.Checks.{Passes, first-append, passes_none, passes-placed, cons-passes, append-passes}
use Rattle.columns.proofs.Checks.{first-number, renumbered-told, renumbered-passes}
use Rattle.columns.proofs.First.{left-true, right-true}
use Rattle.records.specs.Record.{marked}
use Rattle.files.specs.Layout.{row_size, correction_head_size, letter_k, correction_start}
use Rattle.files.specs.Layout.{head_at, correction_head_at, row_count, correction_count}
use Rattle.files.specs.Form.{states, terms_of, ruling, start_of, rows_from, row_start}
use Rattle.files.specs.Range.{head_ok, terms_ok, correction_head_ok}
use Rattle.files.specs.Walk.{in_correction, in_interval}
use Rattle.files.specs.Order.{head_checks, row_checks_of, own_order, their_order, interval_order, interval_fault, file_order, file_fault}
use Rattle.files.specs.Order.{correction_starts, correction_order, same_time, name_checks, beside_order, present_order}
use Rattle.files.specs.Counting.{part, named, counting_bytes}
use Rattle.files.specs.declared.Terms.{Terms}
use Rattle.files.proofs.Answer.{interval-numbers}
use Rattle.files.proofs.Passed.{head_passed}
use Rattle.files.proofs.Ranges.{correction-few}
use Rattle.files.specs.Verdict.{Verdict, Accepted, Refused, number_of, value_of}
use Rattle.contents.specs.Content.{reading_of, row_checks_in, row_place, writer_order, written_of, rewritten_of, held_order}
use Rattle.contents.specs.declared.Contents.{Contents}
use Rattle.contents.proofs.Record.{rows_few}
use Rattle.contents.proofs.Refusal.{writer-passed, writer-numbers}
use Rattle.contents.proofs.Said.{few}
use Rattle.statement.specs.Statement.{extra_of}
use Rattle.settle.specs.Answer.{size_of, room_order, settle_order, answer_of}
use Rattle.settle.proofs.Answered.{settle-numbers}
use Rattle.abi.specs.Packed.{Packs}

-- ---- places

-- what a list of checks refuses is at most 256 rows away
abbrev pub Near : List Refusal → Type 0
Near rs = (first_refusal rs).place ≤ 256

append-near : (xs ys : List Refusal) → Near xs → (Passes xs → Near ys) → Near (xs ++ ys)
unfolding or_else
append-near xs ys a b = rw (first-append xs ys) (go (first_refusal xs).applies refl)
  where
    go : (t : Bool) → (first_refusal xs).applies ≡ t → (cond t (first_refusal xs) (first_refusal ys)).place ≤ 256
    go true e = a
    go false e = b e

placed-near : (p : ℕ) (cs : List Check) → p ≤ 256 → Near (placed p cs)
unfolding first_refusal
placed-near p [] l = zero-le
placed-near p (c ∷ cs) l = go c.applies (placed-near p cs l)
  where
    go : (t : Bool) → Near (placed p cs) → (cond t (refusal c.applies c.number p) (first_refusal (placed p cs))).place ≤ 256
    go true h = l
    go false h = h

one-near : (b : Bool) (n : ℕ) → Near (refusal b n 0 ∷ [])
unfolding first_refusal
one-near true n = zero-le
one-near false n = zero-le

rows-near : (n : ℕ) (f : ℕ → List Check) → n ≤ 256 → Near (row_by_row n f)
unfolding row_by_row first_refusal
rows-near zero f l = zero-le
rows-near (suc n) f l = append-near (row_by_row n f) (placed (suc n) (f n)) (rows-near n f (omega arith)) (λ e. placed-near (suc n) (f n) l)

renumbered-near : (k : ℕ) (rs : List Refusal) → Near rs → Near (renumbered k rs)
renumbered-near k rs h = go (first_refusal rs).applies refl
  where
    go : (t : Bool) → (first_refusal rs).applies ≡ t → Near (renumbered k rs)
    go true e = rw (renumbered-told k (first_refusal rs).number (first_refusal rs).place rs (rw (← e))) h
    go false e = rw (passes_none (renumbered k rs) (renumbered-passes k rs e)) zero-le

-- a head that passed: at most 256 rows
head_few : (s : List ℕ) → Passes (placed 0 (head_checks s)) → row_count s ≤ 256
head_few s e = rows_few (head_at s) (head_passed s (passes-placed 0 (head_checks s) e)).ok

pub interval-near : (s : List ℕ) → Near (interval_order s)
unfolding interval_order
interval-near s =
    append-near (placed 0 (head_checks s)) (own_order s) (placed-near 0 (head_checks s) zero-le)
    (λ e. rows-near (row_count s) (row_checks_of (terms_of s) s (rows_from s) row_size) (head_few s e))

starts-few : (k : List ℕ) → correction_starts k ≡ true → correction_count k ≤ 256
unfolding correction_starts
starts-few k e =
    let start = leb correction_head_size (length k) && marked k 0 letter_k in
    let ok = correction_head_ok (correction_head_at k) in
    let long = eqb (length k) (correction_start (correction_count k)) in
    correction-few (correction_head_at k) (right-true start ok (left-true (start && ok) long e))

begun : (k : List ℕ) → Passes (refusal (not (correction_starts k)) 8 0 ∷ []) → correction_starts k ≡ true
begun k e = not-false (correction_starts k) (cons-passes (refusal (not (correction_starts k)) 8 0) [] e).0

correction-near : (t : Terms) (k : List ℕ) → Near (correction_order t k)
unfolding correction_order
correction-near t k =
    let rows = their_order t k in
    append-near (refusal (not (correction_starts k)) 8 0 ∷ []) (renumbered 8 rows) (one-near (not (correction_starts k)) 8)
    (λ e. renumbered-near 8 rows (rows-near (correction_count k) (row_checks_of t k correction_head_size row_size) (starts-few k (begun k e))))

-- a correction that passed by itself: at most 256 rows
passed-few : (t : Terms) (k : List ℕ) → Passes (correction_order t k) → correction_count k ≤ 256
unfolding correction_order
passed-few t k e =
    let first = refusal (not (correction_starts k)) 8 0 in
    let rows = renumbered 8 (their_order t k) in
    starts-few k (begun k (append-passes (first ∷ []) rows e).0)

present-near : (s k : List ℕ) → Near (present_order s k)
unfolding present_order beside_order
present-near s k =
    let names = row_by_row (correction_count k) (name_checks s k) in
    append-near (correction_order (terms_of s) k) (refusal (not (same_time s k)) 9 0 ∷ names) (correction-near (terms_of s) k)
    (λ e. append-near (refusal (not (same_time s k)) 9 0 ∷ []) names (one-near (not (same_time s k)) 9)
    (λ f. rows-near (correction_count k) (name_checks s k) (passed-few (terms_of s) k e)))

pub file-near : (s k : List ℕ) → Near (file_order s k)
unfolding file_order
file-near s k =
    append-near (interval_order s) (cond (eqb (length k) 0) [] (present_order s k)) (interval-near s) (λ e. go (eqb (length k) 0))
  where
    go : (b : Bool) → Near (cond b [] (present_order s k))
    go true = unfold first_refusal in zero-le
    go false = present-near s k

pub writer-near : (c : Contents) (room : ℕ) → Near (writer_order c room)
unfolding writer_order
writer-near c room =
    let first = refusal (not (head_ok c.head)) 3 0 in
    let second = refusal (not (terms_ok (ruling c.form))) 14 0 in
    let rows = held_order c in
    append-near (first ∷ second ∷ rows) (refusal (ltb room (row_place c c.head.rows)) 11 0 ∷ [])
    (append-near (first ∷ []) (second ∷ rows) (one-near (not (head_ok c.head)) 3)
    (λ e. append-near (second ∷ []) rows (one-near (not (terms_ok (ruling c.form))) 14)
    (λ f. rows-near c.head.rows (row_checks_in (ruling c.form) c.rows)
    (rows_few c.head (not-false (head_ok c.head) (cons-passes first [] e).0)))))
    (λ e. one-near (ltb room (row_place c c.head.rows)) 11)

settle-near : (s k : List ℕ) (room : ℕ) → Near (settle_order s k room)
unfolding settle_order
settle-near s k room =
    append-near (file_order s k) (room_order s room) (file-near s k)
    (λ e. one-near (ltb room (size_of s)) 11)

-- a pair of files that nothing refuses: at most 256 rows
settled-few : (s k : List ℕ) (room : ℕ) → Passes (settle_order s k room) → row_count s ≤ 256
unfolding settle_order file_order
settled-few s k room e =
    let files = (append-passes (file_order s k) (room_order s room) e).0 in
    few s (append-passes (interval_order s) (cond (eqb (length k) 0) [] (present_order s k)) files).0

-- ---- numbers and values

-- what terms add to a head is little
extra-most : (b : Bool) → extra_of b ≤ 9
extra-most true = lit≤ tt
extra-most false = lit≤ tt

start-most : (b : Bool) → start_of b ≤ 24
start-most true = lit≤ tt
start-most false = lit≤ tt

-- an answer by a list of checks fits its word, if its value fits where nothing refuses
module _ {A : Type 0} (refuse : ℕ → ℕ → A) (done : A) (number value : A → ℕ) (given : number done ≡ 0)
    (numbers : (a p : ℕ) → number (refuse a p) ≡ a) (places : (a p : ℕ) → value (refuse a p) ≡ p) where
  by-list : (rs : List Refusal) → numbers_in 1 last_number rs ≡ true → Near rs → (Passes rs → value done < 4294967296)
      → Packs (number (answer_by refuse done (first_refusal rs))) (value (answer_by refuse done (first_refusal rs)))
  by-list rs bound near fits = go (first_refusal rs).applies refl
    where
      go : (b : Bool) → (first_refusal rs).applies ≡ b
          → Packs (number (answer_by refuse done (first_refusal rs))) (value (answer_by refuse done (first_refusal rs)))
      go true e = rw (e, numbers, places) (record { number_fits = (first-number 1 last_number rs bound e).1; value_fits = omega (arith, near) })
      go false e = rw (e, given) (record { number_fits = zero-le; value_fits = fits e })

pub answer-packs : (s k : List ℕ) (room : ℕ) → Packs (number_of (answer_of s k room)) (value_of (answer_of s k room))
unfolding answer_of
answer-packs s k room =
    by-list Refused (Accepted (size_of s)) number_of value_of refl (λ a p. refl) (λ a p. refl)
    (settle_order s k room) (settle-numbers s k room) (settle-near s k room) (λ e. omega (arith, settled-few s k room e, extra-most (states s)))

pub written-packs : (c : Contents) (room : ℕ) → Packs (number_of (written_of c room)) (value_of (written_of c room))
unfolding written_of
written-packs c room =
    by-list Refused (Accepted (row_place c c.head.rows)) number_of value_of refl (λ a p. refl) (λ a p. refl)
    (writer_order c room) (writer-numbers c room) (writer-near c room)
    (λ e. omega (arith, rows_few c.head (writer-passed c room e).head, start-most c.form.stated))

pub rewritten-packs : (s : List ℕ) (room : ℕ) → Packs (number_of (rewritten_of s room)) (value_of (rewritten_of s room))
unfolding rewritten_of
rewritten-packs s room = go (interval_fault s).applies refl
  where
    answer : Bool → Verdict
    answer b = cond b (Refused (interval_fault s).number (interval_fault s).place) (written_of (reading_of s).contents room)

    go : (b : Bool) → (interval_fault s).applies ≡ b → Packs (number_of (answer b)) (value_of (answer b))
    go true e =
        record { number_fits = (first-number 1 last_number (interval_order s) (interval-numbers s) e).1; value_fits = omega (arith, interval-near s) }
    go false e = written-packs (reading_of s).contents room

-- ---- the row that counts

taken-short : (s : List ℕ) (k : ℕ) → length (part row_size s k) ≤ 21
taken-short s k = omega (arith, length-take 21 (drop k s))

if-short : (t : Bool) (a b : List ℕ) → length a ≤ 21 → length b ≤ 21 → length (cond t a b) ≤ 21
if-short true a b l m = l
if-short false a b l m = m

named-short : (s k : List ℕ) (id : ℕ) → length (named s k id) ≤ 21
unfolding named
named-short s k id =
    if-short (ltb (in_correction k id) (correction_count k)) (part row_size k (correction_start (in_correction k id)))
    (cond (ltb (in_interval s id) (row_count s)) (part row_size s (row_start s (in_interval s id))) [])
    (taken-short k (correction_start (in_correction k id)))
    (if-short (ltb (in_interval s id) (row_count s)) (part row_size s (row_start s (in_interval s id))) []
    (taken-short s (row_start s (in_interval s id))) zero-le)

pub part-short : (s k : List ℕ) (id : ℕ) → length (counting_bytes s k id) ≤ 21
unfolding counting_bytes
part-short s k id = if-short (file_fault s k).applies [] (named s k id) zero-le (named-short s k id)
