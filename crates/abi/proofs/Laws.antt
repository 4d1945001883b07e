-- What callers of the library may rely on.
--   number-back, value-back      number and value come back out of a word whose value fits
--   settled-number, settled-value       the engine's number and value, from its word
--   copied-short, copied-whole          the row that counts, by the room there is
--   accepted-rewritten, accepted-buffer     an accepted file with room for it: 0 and its length, and its own bytes in front
--   settle-unique, row-unique, rewrite-unique (Unique.antt)      the contracts leave one word and one buffer
use Prim.Native.Nat.{ℕ, ◌/◌, ◌%◌, ◌≤◌, ◌<◌}
use mathlib.Core.Path.{◌≡◌}
use mathlib.Core.List.{List}
use native.Mathlib.Omega.{arith}
use lib.ListN.{length, get_or}
use borrow.Author.Tests.{lt-ltb, le-ltb}
use Rattle.records.specs.Buffer.{put}
use Rattle.files.specs.Verdict as read
use Rattle.files.specs.Verdict.{number_of, value_of}
use Rattle.files.specs.Counting.{counting_bytes}
use Rattle.contents.specs.Content.{reading_of, rewritten_buffer}
use Rattle.contents.proofs.RoundTrip.{file-again-bytes, file-again-buffer}
use Rattle.settle.specs.Answer.{answer_of}
use Rattle.abi.specs.Packed.{packed, settled, copied, rewritten}
use Rattle.abi.proofs.Small.{answer-packs}

pub number-back : (number value : ℕ) → value < 4294967296 → packed number value / 4294967296 ≡ number
number-back number value l = omega arith

pub value-back : (number value : ℕ) → value < 4294967296 → packed number value % 4294967296 ≡ value
value-back number value l = omega arith

module _ (s k : List ℕ) (room : ℕ) where
  pub settled-number : settled s k room / 4294967296 ≡ number_of (answer_of s k room)
  unfolding settled
  settled-number = number-back (number_of (answer_of s k room)) (value_of (answer_of s k room)) (answer-packs s k room).value_fits

  pub settled-value : settled s k room % 4294967296 ≡ value_of (answer_of s k room)
  unfolding settled
  settled-value = value-back (number_of (answer_of s k room)) (value_of (answer_of s k room)) (answer-packs s k room).value_fits

module _ (s k : List ℕ) (id room : ℕ) where
  pub copied-short : room < length (counting_bytes s k id) → copied s k id room ≡ packed 11 0
  unfolding copied
  copied-short l = rw (lt-ltb room (length (counting_bytes s k id)) l)

  pub copied-whole : length (counting_bytes s k id) ≤ room → copied s k id room ≡ packed 0 (length (counting_bytes s k id))
  unfolding copied
  copied-whole l = rw (le-ltb room (length (counting_bytes s k id)) l)

module _ (s : List ℕ) (accepted : read.number_of (reading_of s).verdict ≡ 0) (bytes : (i : ℕ) → get_or s i 0 < 256)
    (out : List ℕ) (room : length s ≤ length out) where
  pub accepted-rewritten : rewritten s (length out) ≡ packed 0 (length s)
  unfolding rewritten
  accepted-rewritten = rw (file-again-bytes s accepted bytes out room)

  pub accepted-buffer : rewritten_buffer s out ≡ put out 0 s
  accepted-buffer = file-again-buffer s accepted bytes out room
