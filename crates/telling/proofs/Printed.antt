-- What `tell` prints, piece by piece, as the code asks for it.
--   record-placed                   the fields read by a record's table make its line of text
--   head-stated, head_plain         the head's line, by its mark
--   no_lines, lines_more, lines-all the start, a turn and the end of `tell_lines`
--   statement-placed                the head's line and the lines are the statement's text
--   refusal-placed                  the word, the number and the place are the refusal's text
--   told-settled, told-refused      what the engine answers decides which of the two `tell` prints
--   settled-placed, refused-placed  the same of what it answered, and of the buffer that it was lent
--   told-rows                       a settlement has as many lines of text behind the head's as that one says there are rows
use mathlib.Core.Path.{◌≡◌, refl, sym, ap, ◌∙◌}
use mathlib.Core.List.{List, [], ◌∷◌, ◌++◌}
use Prim.Native.Nat.{ℕ, ◌+◌, ◌-◌, ◌*◌, ◌/◌, ◌≤◌}
use native.Mathlib.Numerals.{add-one}
use native.Mathlib.Omega.{arith}
use mathlib.Core.Bool.{Bool, true, false}
use lib.ListN.{length, take, drop, length-drop}
use lib.Seq.{length-take-le, take_all}
use Rattle.records.specs.Buffer.{put}
use Rattle.records.proofs.Buffer.{put_whole}
use Rattle.records.specs.Record.{marked, record_at}
use Rattle.files.specs.Form.{states}
use Rattle.statement.specs.Statement.{letter_t, line_widths, head_size, line_size, line_start, extra_of, has_terms, extra_in, head_in, body_in}
use Rattle.statement.specs.declared.StatementHead.{StatementHead}
use Rattle.files.specs.Verdict.{Verdict, Accepted, Refused, number_of}
use Rattle.settle.specs.Answer.{top_of, statement_of, answer_of, buffer_after}
use Rattle.settle.specs.Statement.{statement_head}
use Rattle.settle.proofs.Answered.{settled-count}
use Rattle.demands.proofs.Demand1.{settled-accepted, accepted-settled, settled-buffer, settled-front}
use Rattle.demands.proofs.Demand2.{statement-read-head}
use Rattle.telling.specs.Text.{decimal, line_text, lines_to, lines_in, head_widths, head_text, statement_text, Whole, refused_word, refused_text, told_text, tell_text, Placed}
use Rattle.telling.specs.Text.{room, number_most, line_most, text_most, refusal_most}
use Rattle.telling.proofs.Texts.{placed-none, placed-after}
use Rattle.telling.proofs.Size.{settled_is, settled-terms, settled-whole}

pub record-placed : (l l' fields ws b : List ℕ) (from end k : ℕ) → fields ≡ record_at ws b k
    → Placed l l' from (line_text fields) end line_most → Placed l l' from (line_text (record_at ws b k)) end line_most
record-placed l l' fields ws b from end k e p = rw e at p

-- the head's line, where its mark was looked at
module _ (l l' b : List ℕ) (t : Bool) (end : ℕ) (mark : t ≡ marked b 0 letter_t) where
  has : t ≡ has_terms b
  unfolding has_terms
  has = mark

  pub head-stated : t ≡ true → Placed l l' 0 (line_text (record_at (head_widths true) b 0)) end line_most → Placed l l' 0 (head_text b) end line_most
  unfolding head_text
  head-stated e p = rw (← has, e) p

  pub head_plain : t ≡ false → Placed l l' 0 (line_text (record_at (head_widths false) b 0)) end line_most → Placed l l' 0 (head_text b) end line_most
  unfolding head_text
  head_plain e p = rw (← has, e) p

  pub head-room : Whole b → t ≡ true → extra_of true + head_size ≤ length b
  head-room w e = omega (arith, w.long, ap extra_of (sym has ∙ e))

-- the part of a statement in which lines stand as behind a head PS
module _ (b : List ℕ) (t : Bool) (extra : ℕ) (mark : t ≡ marked b 0 letter_t) (is : extra ≡ extra_of t) (w : Whole b) where
  abbrev part : List ℕ
  part = take (length b - extra) (drop extra b)

  extra-told : extra ≡ extra_in b
  unfolding has_terms
  extra-told = is ∙ ap extra_of mark

  part-size : length part ≡ length b - extra
  part-size = length-take-le (length b - extra) (drop extra b) (omega (arith, length-drop extra b))

  pub part-long : head_size ≤ length part
  part-long = omega (arith, part-size, extra-told, w.long)

  pub part-lines : line_start ((length part - head_size) / line_size) ≤ length part
  part-lines = omega (arith, part-long)

  pub part-few : (length part - head_size) / line_size ≤ 256
  part-few = omega (arith, part-size, extra-told, w.most)

  part-told : part ≡ body_in b
  unfolding body_in
  part-told = take_all (length b - extra) (drop extra b) (omega (arith, length-drop extra b)) ∙ ap (λ (x : ℕ). drop x b) extra-told

  pub statement-placed : (l l' l'' : List ℕ) (at end : ℕ) → Placed l l' 0 (head_text b) at line_most
      → Placed l' l'' at (lines_to ((length part - head_size) / line_size) part) end ((length part - head_size) / line_size * line_most)
      → Placed l l'' 0 (statement_text b) end text_most
  unfolding statement_text
  statement-placed l l' l'' at end p q =
      placed-after l l' l'' (head_text b) (lines_to (lines_in b) (body_in b)) 0 at end line_most (lines_in b * line_most) text_most
      (omega arith) (omega (arith, rw part-told at part-few)) p (rw part-told at q)

pub no_lines : (l b : List ℕ) (from : ℕ) → Placed l l from (lines_to 0 b) from 0
unfolding lines_to
no_lines l b from = placed-none l from

lines_next : (i : ℕ) (b : List ℕ) → lines_to (i + 1) b ≡ lines_to i b ++ line_text (record_at line_widths b (line_start i))
unfolding lines_to
lines_next i b = rw add-one

pub lines_more : (l l' l'' b : List ℕ) (from at i n end : ℕ) → from + n * line_most ≤ length l → Placed l l' from (lines_to i b) at (i * line_most)
    → Placed l' l'' at (line_text (record_at line_widths b (line_start i))) end line_most
    → Placed l l'' from (lines_to (i + 1) b) end ((i + 1) * line_most)
lines_more l l' l'' b from at i n end room p q =
    rw (lines_next i b)
    (placed-after l l' l'' (lines_to i b) (line_text (record_at line_widths b (line_start i))) from at end (i * line_most) line_most ((i + 1) * line_most)
    (omega arith) (omega arith) p q)

pub lines-all : (l l' b : List ℕ) (from at i n : ℕ) → i ≤ n → n ≤ i → Placed l l' from (lines_to i b) at (i * line_most)
    → Placed l l' from (lines_to n b) at (n * line_most)
lines-all l l' b from at i n h k p = let e : i ≡ n = omega arith in rw e at p

pub refusal-placed : (l l' l'' l''' : List ℕ) (number place at end : ℕ) → l' ≡ put l 0 refused_word
    → Placed l' l'' 8 (decimal number ++ (32 ∷ [])) at number_most → Placed l'' l''' at (decimal place ++ (10 ∷ [])) end number_most
    → Placed l l''' 0 (refused_text number place) end refusal_most
unfolding refused_text
refusal-placed l l' l'' l''' number place at end e p q =
    let word : Placed l l' 0 refused_word 8 8 = record { bytes = e; end_is = refl; fits = omega arith } in
    let first = placed-after l l' l'' refused_word (decimal number ++ (32 ∷ [])) 0 8 at 8 number_most (8 + number_most)
    (omega arith) (omega arith) word p in
    placed-after l l'' l''' (refused_word ++ (decimal number ++ (32 ∷ []))) (decimal place ++ (10 ∷ []))
    0 at end (8 + number_most) number_most refusal_most (omega arith) (omega arith) first q

pub told-settled : (s : List ℕ) (size : ℕ) → answer_of s [] room ≡ Accepted size → tell_text s ≡ statement_text (statement_of s [])
unfolding tell_text told_text
told-settled s size h = rw h

pub told-refused : (s : List ℕ) (number place : ℕ) → answer_of s [] room ≡ Refused number place → tell_text s ≡ refused_text number place
unfolding tell_text told_text
told-refused s number place h = rw h

-- the same of what the engine answered, and left in the buffer that it was lent
module _ (s out : List ℕ) (a : Verdict) (long : length out ≡ room) (e : a ≡ answer_of s [] (length out)) where
  pub settled-placed : (l l' left : List ℕ) (size end : ℕ) → left ≡ buffer_after s [] out → a ≡ Accepted size
      → Placed l l' 0 (statement_text (take size left)) end text_most → Placed l l' 0 (tell_text s) end text_most
  settled-placed l l' left size end b f p =
      let h : answer_of s [] (length out) ≡ Accepted size = sym e ∙ f in
      let front : take size left ≡ statement_of s [] = rw (b, settled_is s [] (length out) size h) (settled-front s [] out (ap number_of h)) in
      rw (told-settled s size (rw long at h), ← front) p

  pub refused-placed : (l l' : List ℕ) (number place end : ℕ) → a ≡ Refused number place
      → Placed l l' 0 (refused_text number place) end refusal_most → Placed l l' 0 (tell_text s) end text_most
  refused-placed l l' number place end f p =
      let h : answer_of s [] (length out) ≡ Refused number place = sym e ∙ f in
      rw (told-refused s number place (rw long at h)) (record { bytes = p.bytes; end_is = p.end_is; fits = omega (arith, p.fits) })

-- the front of the buffer that the engine left is a whole statement
pub settled-told : (s out left : List ℕ) (a : Verdict) (size : ℕ) → a ≡ answer_of s [] (length out) → left ≡ buffer_after s [] out → a ≡ Accepted size
    → Whole (take size left)
settled-told s out left a size e b f =
    let h : answer_of s [] (length out) ≡ Accepted size = sym e ∙ f in
    rw (b, settled_is s [] (length out) size h, settled-front s [] out (ap number_of h)) (settled-whole s [] (length out) (ap number_of h))

pub told-rows : (s k : List ℕ) (space : ℕ) → number_of (answer_of s k space) ≡ 0
    → lines_in (statement_of s k) ≡ (head_in (statement_of s k)).rows
unfolding top_of statement_head body_in
told-rows s k space h =
    let b = statement_of s k in
    let again : number_of (answer_of s k (length b)) ≡ 0 =
    ap number_of (accepted-settled s k (length b) _ (settled-accepted s k space h) (omega (arith, settled-count s k))) in
    let same : buffer_after s k b ≡ b = settled-buffer s k b again ∙ put_whole b b refl in
    let read = ap (λ (x : StatementHead). x.rows) (statement-read-head s k b again) in
    rw (settled-terms s k) (omega (arith, settled-count s k, length-drop (extra_of (states s)) b, rw same at read))
