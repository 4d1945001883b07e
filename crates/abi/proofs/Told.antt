-- What the exported functions answer, in the shape in which their code has it.
--   settled-packs, rewritten-fits, short-packs, part-packs      number and value fit their word
--   settled-told, rewritten-told                                the word is that of the answer
--   short-told, short-buffer, copied-told, copied-made          no room for the row, and room
use Prim.Native.Nat.{ℕ, ◌≤◌, ◌<◌, zero-le}
use mathlib.Core.Path.{◌≡◌}
use mathlib.Core.List.{List}
use native.Mathlib.Omega.{arith}
use lib.ListN.{length}
use borrow.Author.Tests.{lt-ltb, le-ltb}
use Rattle.records.specs.Buffer.{put}
use Rattle.files.specs.Counting.{counting_bytes}
use Rattle.files.specs.Verdict.{Verdict, number_of, value_of}
use Rattle.contents.specs.Content.{rewritten_of}
use Rattle.settle.specs.Answer.{answer_of}
use Rattle.abi.specs.Packed.{packed, Packs, settled, copied, copied_buffer, rewritten}
use Rattle.abi.proofs.Small.{answer-packs, rewritten-packs, part-short}

module _ (s k : List ℕ) (room : ℕ) (a : Verdict) (is : a ≡ answer_of s k room) where
  pub settled-packs : Packs (number_of a) (value_of a)
  settled-packs = rw is (answer-packs s k room)

  pub settled-told : (r : ℕ) → r ≡ packed (number_of a) (value_of a) → r ≡ settled s k room
  unfolding settled
  settled-told r p = rw (← is) p

module _ (s : List ℕ) (room : ℕ) (w : Verdict) (is : w ≡ rewritten_of s room) where
  pub rewritten-fits : Packs (number_of w) (value_of w)
  rewritten-fits = rw is (rewritten-packs s room)

  pub rewritten-told : (r : ℕ) → r ≡ packed (number_of w) (value_of w) → r ≡ rewritten s room
  unfolding rewritten
  rewritten-told r p = rw (← is) p

pub short-packs : Packs 11 0
short-packs = record { number_fits = omega arith; value_fits = omega arith }

module _ (s k : List ℕ) (id : ℕ) (bytes : List ℕ) (is : bytes ≡ counting_bytes s k id) where
  pub part-packs : Packs 0 (length bytes)
  part-packs = rw is (record { number_fits = zero-le; value_fits = omega (arith, part-short s k id) })

  pub short-told : (room r : ℕ) → room < length bytes → r ≡ packed 11 0 → r ≡ copied s k id room
  unfolding copied
  short-told room r l p = rw (← is, lt-ltb room (length bytes) l) p

  pub short-buffer : (out : List ℕ) → length out < length bytes → out ≡ copied_buffer s k id out
  unfolding copied_buffer
  short-buffer out l = rw (← is, lt-ltb (length out) (length bytes) l)

  pub copied-told : (room r : ℕ) → length bytes ≤ room → r ≡ packed 0 (length bytes) → r ≡ copied s k id room
  unfolding copied
  copied-told room r l p = rw (← is, le-ltb room (length bytes) l) p

  pub copied-made : (out made : List ℕ) → length bytes ≤ length out → made ≡ put out 0 bytes → made ≡ copied_buffer s k id out
  unfolding copied_buffer
  copied-made out made l p = rw (← is, le-ltb (length out) (length bytes) l) p
