-- The library's answers to C: a number and a value in one word of 64 bits, and the buffers afterwards (01, The files; Numbers of refusal).
use Rattle.std.specs.Prelude.{ℕ, ◌+◌, ◌*◌, ◌≤◌, ◌<◌, cond, List, ltb, length}
use Rattle.columns.specs.Checks.{last_number}
use Rattle.records.specs.Buffer.{put}
use Rattle.files.specs.Verdict.{number_of, value_of}
use Rattle.files.specs.Counting.{counting_bytes}
use Rattle.contents.specs.Content.{rewritten_of}
use Rattle.settle.specs.Answer.{answer_of}

-- the number in the upper 32 bits, the value in the lower
abbrev pub packed : ℕ → ℕ → ℕ
packed number value = number * 4294967296 + value

-- what fits such a word
pub record Packs (number value : ℕ) : Type 0 where
  pub number_fits : number ≤ last_number
  pub value_fits : value < 4294967296

-- the engine's answer: 0 and the count of bytes, or the refusal's number and place
unfoldable pub settled : List ℕ → List ℕ → ℕ → ℕ
settled s k room =
    let a = answer_of s k room in
    packed (number_of a) (value_of a)

-- the row that counts: 0 and how many bytes were copied, which is none where nobody names the row; 11 where the buffer is shorter
unfoldable pub copied : List ℕ → List ℕ → ℕ → ℕ → ℕ
copied s k id room =
    let part = counting_bytes s k id in
    cond (ltb room (length part)) (packed 11 0) (packed 0 (length part))

unfoldable pub copied_buffer : List ℕ → List ℕ → ℕ → List ℕ → List ℕ
copied_buffer s k id out =
    let part = counting_bytes s k id in
    cond (ltb (length out) (length part)) out (put out 0 part)

-- a file read and written again: 0 and the count of bytes, or the refusal's number and place, the reader's or else the writer's
unfoldable pub rewritten : List ℕ → ℕ → ℕ
rewritten s room =
    let w = rewritten_of s room in
    packed (number_of w) (value_of w)
