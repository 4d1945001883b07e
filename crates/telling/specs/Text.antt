-- What `tell` prints (01, Checked figures): of a statement each record's fields in order, without the mark, as decimal text; of a
-- refusal its number and its place. `tell_text` is the whole of it.
use Rattle.std.specs.Prelude.{◌≡◌, ℕ, zero, suc, ◌+◌, ◌-◌, ◌*◌, ◌/◌, ◌%◌, ◌≤◌, Bool, cond, List, [], ◌∷◌, ◌++◌, ltb, eqb, length, get_or}
use Rattle.records.specs.Buffer.{put}
use Rattle.records.specs.Record.{record_at}
use Rattle.files.specs.Form.{terms_widths, terms_size}
use Rattle.statement.specs.Statement.{front_widths, tail_widths, line_widths, head_size, line_size, line_start, has_terms, extra_in, body_in}
use Rattle.settle.specs.Answer.{statement_of, answer_of}
use Rattle.files.specs.Verdict.{Verdict, Accepted, Refused}

-- a number's decimal text in ASCII with no zeros in front, if it has at most so many digits and one more
unfoldable pub decimal_in : ℕ → ℕ → List ℕ
decimal_in zero x = (48 + x % 10) ∷ []
decimal_in (suc more) x = cond (ltb x 10) ((48 + x % 10) ∷ []) (decimal_in more (x / 10) ++ ((48 + x % 10) ∷ []))

-- twenty digits hold every number of eight bytes
abbrev pub decimal : ℕ → List ℕ
decimal x = decimal_in 19 x

-- what stands after field i of n: a space, or the line's end
abbrev pub end_of : ℕ → ℕ → ℕ
end_of n i = cond (eqb i (n - 1)) 10 32

-- the text of the first so many of a record's fields
unfoldable pub text_to : ℕ → List ℕ → List ℕ
text_to zero fields = []
text_to (suc i) fields = text_to i fields ++ (decimal (get_or fields i 0) ++ (end_of (length fields) i ∷ []))

-- a record's line of text
abbrev pub line_text : List ℕ → List ℕ
line_text fields = text_to (length fields) fields

-- the text of the first so many lines of a statement's bytes
unfoldable pub lines_to : ℕ → List ℕ → List ℕ
lines_to zero b = []
lines_to (suc i) b = lines_to i b ++ line_text (record_at line_widths b (line_start i))

-- how many lines a statement's bytes hold behind the head; counted by their length, so that no field of them has to be believed
-- (`told-rows` of proofs/Printed.antt: where the engine settles, the head's field says the same)
abbrev pub lines_in : List ℕ → ℕ
lines_in b = (length (body_in b) - head_size) / line_size

-- the widths of a whole head's fields, without terms or with them, and the text of a statement's head, by its mark
abbrev pub head_widths : Bool → List ℕ
head_widths terms = front_widths ++ (cond terms terms_widths [] ++ tail_widths)

unfoldable pub head_text : List ℕ → List ℕ
head_text b = line_text (record_at (head_widths (has_terms b)) b 0)

-- a statement's text: the head's line, then the lines in order
unfoldable pub statement_text : List ℕ → List ℕ
statement_text b = head_text b ++ lines_to (lines_in b) (body_in b)

-- bytes with a whole head, by their mark, and at most 256 lines
pub record Whole (b : List ℕ) : Type 0 where
  pub plain : head_size ≤ length b
  pub long : extra_in b + head_size ≤ length b
  pub most : length b ≤ extra_in b + line_start 256

-- "refused" and a space
abbrev pub refused_word : List ℕ
refused_word = 114 ∷ 101 ∷ 102 ∷ 117 ∷ 115 ∷ 101 ∷ 100 ∷ 32 ∷ []

-- a refusal's text: the word, the number, a space, the place, the line's end
unfoldable pub refused_text : ℕ → ℕ → List ℕ
refused_text number place = refused_word ++ (decimal number ++ (32 ∷ [])) ++ (decimal place ++ (10 ∷ []))

-- the text of an engine's answer, where b is the statement's bytes
unfoldable pub told_text : Verdict → List ℕ → List ℕ
told_text (Accepted size) b = statement_text b
told_text (Refused number place) b = refused_text number place

-- the room that `tell` has for a statement: that of 256 rows, with terms
abbrev pub room : ℕ
room = terms_size + line_start 256

-- what `tell` prints for the interval file s, for which there is no correction
unfoldable pub tell_text : List ℕ → List ℕ
tell_text s = told_text (answer_of s [] room) (statement_of s [])

-- a text put into a buffer: nothing else changes, the position handed back is the one after it, and it has at most so many bytes
pub record Placed (before after : List ℕ) (from : ℕ) (text : List ℕ) (end most : ℕ) : Type 0 where
  pub bytes : after ≡ put before from text
  pub end_is : end ≡ from + length text
  pub fits : end ≤ from + most

-- how many bytes a number takes at most with the one after it, a record's line of at most sixteen of them, a statement's text and a
-- refusal's
abbrev pub number_most : ℕ
number_most = 20 + 1

abbrev pub line_most : ℕ
line_most = 16 * number_most

abbrev pub text_most : ℕ
text_most = (1 + 256) * line_most

abbrev pub refusal_most : ℕ
refusal_most = length refused_word + 2 * number_most
