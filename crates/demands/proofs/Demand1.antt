-- Demand 1: every pair of files and every buffer is answered, by a statement or by one numbered refusal, in the order of the
-- checks; a refusal changes nothing. The answer is told by its number and value (`number_of`, `value_of` of `settle`).
--   zero-free, free-zero     the number is 0 exactly if no check applies
--   refused-first, first-refused     a number a above 0 and a place p are given exactly if the first check that applies has them
--   answered           the number is 0 and the value the statement's count, or the number is from 1 to `last_number`
--   files-refused      what refuses the files refuses them here, whatever the buffer
--   short-refused      accepted files and a buffer that is too short: 11, place 0
--   refused-by         and there is no other refusal
--   refusal-keeps      a refusal leaves every byte of the buffer as it was
--   settled-buffer     a settlement: the statement's 40 + 42n bytes, 9 more with terms (`settled-count` of `settle`), are put in front of what the buffer held
--   settled-front      so they stand at the front of the buffer
--   settled-past       and every byte past them is as before
--   buffer-length      the buffer keeps its length, whatever the answer
--   settled-accepted, settled-room     a settlement: the files are accepted, and the buffer is long enough
--   accepted-settled   and the other way round
-- The list of the checks is `settle_order`; `Earliest` and `NoneApplies` are of columns (specs/Checks.antt).
use Prim.Native.Nat.{ℕ, ◌+◌, ◌≤◌, ◌<◌}
use mathlib.Core.Path.{◌≡◌, refl, ap, ◌∙◌}
use mathlib.Core.Logic.{◌⊎◌, inl, inr, ⊎_elim}
use mathlib.Core.Bool.{true, false}
use mathlib.Core.List.{List}
use native.Mathlib.Nat.{eq-zero-or-pos}
use native.Mathlib.Omega.{arith}
use lib.ListN.{length, take}
use borrow.Author.Tests.{ltb-true, ltb-false}
use Rattle.columns.specs.Checks.{Refusal, first_refusal, last_number, Earliest, NoneApplies, Tells}
use Rattle.columns.specs.Table.{at}
use Rattle.columns.proofs.Checks.{first-none, earliest-first, append-none, earliest-append}
use Rattle.columns.proofs.Checks.{answer-no, answer-yes, zero-none, number-earliest, earliest-number, refused-number}
use Rattle.columns.proofs.Rank.{test-or}
use Rattle.records.specs.Buffer.{put}
use Rattle.records.proofs.Buffer.{put-length, put-after, take_put}
use Rattle.files.specs.Layout.{row_count}
use Rattle.files.specs.Order.{file_order, file_fault, verdict_of}
use Rattle.files.specs.Verdict.{Accepted, Refused, number_of, value_of}
use Rattle.settle.specs.Answer.{statement_of, size_of, room_order, settle_order, answer_of, buffer_after}
use Rattle.settle.proofs.Answered.{files-stop, room-stop, none-stop, settle-numbers, settled-count}

tells : (c : ℕ) → Tells Refused (Accepted c) number_of value_of
tells c =
    record {
      given = refl;
      numbers = λ a p. refl;
      places = λ a p. refl;
      differs = λ a p e. let z : ◌≡◌ {A = ℕ} 0 1 = cc in omega arith;
    }

module _ (s k : List ℕ) (room : ℕ) where
  abbrev count : ℕ
  count = size_of s

  pub zero-free : number_of (answer_of s k room) ≡ 0 → NoneApplies (settle_order s k room)
  unfolding answer_of
  zero-free = zero-none Refused (Accepted count) number_of value_of (tells count) (settle_order s k room) last_number (settle-numbers s k room)

  pub free-zero : NoneApplies (settle_order s k room) → (number_of (answer_of s k room) ≡ 0) × (value_of (answer_of s k room) ≡ size_of s)
  unfolding answer_of
  free-zero free = rw (first-none (settle_order s k room) free) (refl, refl)

  pub refused-first : (a p : ℕ) → (a ≡ 0 → ⊥) → number_of (answer_of s k room) ≡ a → value_of (answer_of s k room) ≡ p → Earliest (settle_order s k room) a p
  unfolding answer_of
  refused-first = number-earliest Refused (Accepted count) number_of value_of (tells count) (settle_order s k room) last_number (settle-numbers s k room)

  pub first-refused : (a p : ℕ) → Earliest (settle_order s k room) a p → (number_of (answer_of s k room) ≡ a) × (value_of (answer_of s k room) ≡ p)
  unfolding answer_of
  first-refused = earliest-number Refused (Accepted count) number_of value_of (tells count) (settle_order s k room) last_number (settle-numbers s k room)

  pub answered : ((number_of (answer_of s k room) ≡ 0) × (value_of (answer_of s k room) ≡ size_of s))
      ⊎ ((1 ≤ number_of (answer_of s k room)) × (number_of (answer_of s k room) ≤ last_number))
  answered =
      ⊎_elim (λ (z : number_of (answer_of s k room) ≡ 0). inl (free-zero (zero-free z)))
      (λ (up : 0 < number_of (answer_of s k room)).
      inr (refused-number Refused (Accepted count) number_of value_of (tells count) (settle_order s k room) last_number (settle-numbers s k room)
      (number_of (answer_of s k room)) (value_of (answer_of s k room)) (refused-first _ _ (λ z. omega arith) refl refl)))
      (eq-zero-or-pos (number_of (answer_of s k room)))

  -- ---- the files first, then the buffer

  pub files-refused : (a p : ℕ) → verdict_of s k ≡ Refused a p → answer_of s k room ≡ Refused a p
  unfolding answer_of
  files-refused a p refused = answer-no Refused (Accepted count) (first_refusal (settle_order s k room)) a p (files-stop s k room a p refused)

  pub short-refused : (n : ℕ) → verdict_of s k ≡ Accepted n → room < size_of s → answer_of s k room ≡ Refused 11 0
  unfolding answer_of
  short-refused n ok short = answer-no Refused (Accepted count) (first_refusal (settle_order s k room)) 11 0 (room-stop s k room n ok short)

  pub accepted-settled : (n : ℕ) → verdict_of s k ≡ Accepted n → size_of s ≤ room → answer_of s k room ≡ Accepted (size_of s)
  unfolding answer_of
  accepted-settled n ok enough =
      answer-yes Refused (Accepted count) (first_refusal (settle_order s k room)) (none-stop s k room n ok enough)

  pub settled-accepted : number_of (answer_of s k room) ≡ 0 → verdict_of s k ≡ Accepted (row_count s)
  unfolding settle_order verdict_of
  settled-accepted h =
      answer-yes Refused (Accepted (row_count s)) (file_fault s k)
      (ap (λ (r : Refusal). r.applies) (first-none (file_order s k) (append-none (file_order s k) (room_order s room) (zero-free h)).0))

  pub settled-room : number_of (answer_of s k room) ≡ 0 → size_of s ≤ room
  unfolding settle_order
  settled-room h = ltb-false room (size_of s) ((append-none (file_order s k) (room_order s room) (zero-free h)).1 0 (omega arith))

  -- and there is no other refusal
  pub refused-by : (a p : ℕ) → (a ≡ 0 → ⊥) → number_of (answer_of s k room) ≡ a → value_of (answer_of s k room) ≡ p
      → (verdict_of s k ≡ Refused a p) ⊎ ((verdict_of s k ≡ Accepted (row_count s)) × (room < size_of s) × (11 ≡ a) × (0 ≡ p))
  unfolding settle_order verdict_of
  refused-by a p z n v =
      ⊎_elim
      (λ (e : Earliest (file_order s k) a p). inl (answer-no Refused (Accepted (row_count s)) (file_fault s k) a p (earliest-first (file_order s k) a p e)))
      (λ (w : NoneApplies (file_order s k) × Earliest (room_order s room) a p).
      let free = ap (λ (r : Refusal). r.applies) (first-none (file_order s k) w.0) in
      let only : w.1.at ≡ 0 = omega (arith, w.1.inside) in
      inr (
        answer-yes Refused (Accepted (row_count s)) (file_fault s k) free,
        ltb-true room (size_of s) (rw only at w.1.applies),
        rw only at w.1.number,
        rw only at w.1.place,
      ))
      (earliest-append (file_order s k) (room_order s room) a p (refused-first a p z n v))

-- ---- the buffer

module _ (s k out : List ℕ) where
  abbrev size : ℕ
  size = size_of s

  pub refusal-keeps : (number_of (answer_of s k (length out)) ≡ 0 → ⊥) → buffer_after s k out ≡ out
  unfolding buffer_after answer_of
  refusal-keeps h =
      let first = first_refusal (settle_order s k (length out)) in
      ⊎_elim (λ (e : first.applies ≡ true). rw e)
      (λ (e : first.applies ≡ false). absurd (h (ap number_of (answer-yes Refused (Accepted size) first e)))) (test-or first.applies)

  module _ (h : number_of (answer_of s k (length out)) ≡ 0) where
    pub settled-buffer : buffer_after s k out ≡ put out 0 (statement_of s k)
    unfolding buffer_after
    settled-buffer = rw (first-none (settle_order s k (length out)) (zero-free s k (length out) h))

    pub settled-front : take (size_of s) (buffer_after s k out) ≡ statement_of s k
    settled-front =
        let e : 0 + length (statement_of s k) ≡ size_of s = omega (arith, settled-count s k) in
        rw (settled-buffer, ← e) (take_put out 0 (statement_of s k) (omega arith))

    pub settled-past : (j : ℕ) → size_of s ≤ j → at (buffer_after s k out) j ≡ at out j
    settled-past j l = rw settled-buffer (put-after out 0 (statement_of s k) j 0 (omega arith) (omega (arith, settled-count s k)))

  pub buffer-length : length (buffer_after s k out) ≡ length out
  buffer-length =
      ⊎_elim
      (λ (z : number_of (answer_of s k (length out)) ≡ 0).
      ap length (settled-buffer z) ∙ put-length out 0 (statement_of s k) (omega (arith, settled-count s k, settled-room s k (length out) z)))
      (λ (up : 0 < number_of (answer_of s k (length out))). ap length (refusal-keeps (λ z. omega arith)))
      (eq-zero-or-pos (number_of (answer_of s k (length out))))
