-- Statements in bytes: lengths, and what is read back of what was written.
--   top-length        a head is as long as its form says
--   top-terms         a statement has terms exactly if the form states them
--   top_read          a head whose fields fit their widths, written and read again, is the same head
--   terms-read        and so are terms that fit theirs
--   statement-length  a head and n lines are as long as form and count say
--   statement-read    line i of a whole statement, read again, if its fields fit their widths
use mathlib.Core.Path.{◌≡◌, refl, sym, ap, ◌∙◌}
use mathlib.Core.Bool.{Bool, true, false, cond}
use mathlib.Core.List.{List, [], ◌++◌, append_assoc}
use Prim.Native.Nat.{ℕ, ◌+◌, ◌*◌, ◌<◌}
use native.Mathlib.Nat.{add_assoc}
use lib.Dec.{eqb}
use native.Mathlib.Omega.{arith}
use lib.ListN.{length, length-append}
use Rattle.columns.specs.Table.{table}
use Rattle.records.specs.Fields.{span, fields_bytes}
use Rattle.records.specs.Record.{record_at, record_bytes, records_bytes, fields_at, Fits}
use Rattle.records.proofs.Record.{fields-length, fields_read, record-length, record-read, record-drop}
use Rattle.records.proofs.Sheet.{lines-length, lines-read}
use Rattle.files.specs.Terms.{terms01}
use Rattle.files.specs.Form.{terms_widths, terms_fields, terms_from, terms_bytes, ruling, stated_bytes}
use Rattle.files.specs.declared.Form.{Form}
use Rattle.statement.specs.Statement.{front_widths, front_size, tail_widths, letter_l, letter_t, line_widths, head_size, line_size, line_start, extra_of}
use Rattle.statement.specs.Statement.{front_fields, tail_fields, head_letter, top_bytes, has_terms, head_in, terms_in, body_in}
use Rattle.statement.specs.declared.StatementHead.{StatementHead}

-- every field fits the width that it has in a statement
pub record HeadFits (h : StatementHead) : Type 0 where
  pub front : Fits front_widths (front_fields h)
  pub tail : Fits tail_widths (tail_fields h)

abbrev pub LineFits : List ℕ → Type 0
LineFits xs = Fits line_widths xs

-- ---- the three parts of a head

pub front_length : (b : Bool) (h : StatementHead) → length (record_bytes (head_letter b) front_widths (front_fields h)) ≡ front_size
front_length b h = record-length (head_letter b) front_widths (front_fields h) refl

pub tail-length : (h : StatementHead) → length (fields_bytes tail_widths (tail_fields h)) ≡ span tail_widths
tail-length h = fields-length tail_widths (tail_fields h) refl

pub stated-length : (f : Form) → length (stated_bytes f) ≡ extra_of f.stated
unfolding terms_bytes
stated-length f = go f.stated where
  go : (b : Bool) → length (cond b (terms_bytes f.terms) []) ≡ extra_of b
  go true = fields-length terms_widths (terms_fields f.terms) refl
  go false = refl

module _ (f : Form) (h : StatementHead) where
  abbrev front : List ℕ
  front = record_bytes (head_letter f.stated) front_widths (front_fields h)

  abbrev tail : List ℕ
  tail = fields_bytes tail_widths (tail_fields h)

  pub top-length : length (top_bytes f h) ≡ extra_of f.stated + head_size
  unfolding top_bytes
  top-length =
      omega (
        arith,
        length-append front (stated_bytes f ++ tail),
        length-append (stated_bytes f) tail,
        front_length f.stated h,
        stated-length f,
        tail-length h,
      )

  pub top-terms : (b : List ℕ) → has_terms (top_bytes f h ++ b) ≡ f.stated
  unfolding has_terms top_bytes record_bytes
  top-terms b = go f.stated where
    go : (t : Bool) → eqb (head_letter t) letter_t ≡ t
    go true = refl
    go false = refl

  -- the head's bytes part by part, with what follows
  front-first : (b : List ℕ) → top_bytes f h ++ b ≡ front ++ ((stated_bytes f ++ tail) ++ b)
  unfolding top_bytes
  front-first b = append_assoc front (stated_bytes f ++ tail) b

  terms-next : (b : List ℕ) → top_bytes f h ++ b ≡ front ++ (stated_bytes f ++ (tail ++ b))
  terms-next b = front-first b ∙ ap (λ (x : List ℕ). front ++ x) (append_assoc (stated_bytes f) tail b)

  tail-last : (b : List ℕ) → top_bytes f h ++ b ≡ (front ++ stated_bytes f) ++ (tail ++ b)
  tail-last b = terms-next b ∙ sym (append_assoc front (stated_bytes f) (tail ++ b))

  pub top_read : (b : List ℕ) → HeadFits h → head_in (top_bytes f h ++ b) ≡ h
  unfolding head_in
  top_read b fits =
      let place : front_size + extra_of f.stated ≡ length (front ++ stated_bytes f) =
      omega (arith, length-append front (stated_bytes f), front_length f.stated h, stated-length f) in
      let first : record_at front_widths (top_bytes f h ++ b) 0 ≡ front_fields h =
      rw (front-first b) (record-read (head_letter f.stated) front_widths (front_fields h) [] ((stated_bytes f ++ tail) ++ b) refl fits.front) in
      let last : fields_at tail_widths (top_bytes f h ++ b) (front_size + extra_of f.stated) ≡ tail_fields h =
      rw (place, tail-last b) (fields_read tail_widths (tail_fields h) (front ++ stated_bytes f) b refl fits.tail) in
      rw (top-terms b, first, last)

  stated-is : f.stated ≡ true → stated_bytes f ≡ fields_bytes terms_widths (terms_fields f.terms)
  unfolding terms_bytes
  stated-is e = rw e

  pub terms-read : (b : List ℕ) → Fits terms_widths (terms_fields f.terms) → terms_in (top_bytes f h ++ b) ≡ ruling f
  unfolding terms_in
  terms-read b fits = rw (top-terms b) (go f.stated refl) where
    go : (t : Bool) → f.stated ≡ t → cond t (terms_from (fields_at terms_widths (top_bytes f h ++ b) front_size)) terms01 ≡ cond t f.terms terms01
    go true e =
        let there : fields_at terms_widths (top_bytes f h ++ b) front_size ≡ terms_fields f.terms =
        rw (terms-next b, stated-is e, ← front_length f.stated h)
        (fields_read terms_widths (terms_fields f.terms) front (tail ++ b) refl fits) in
        ap terms_from there
    go false e = refl

-- ---- head and lines

module _ (f : Form) (h : StatementHead) (n : ℕ) (line : ℕ → List ℕ) (full : (i : ℕ) → length (line i) ≡ 11) where
  abbrev lines : List ℕ
  lines = records_bytes letter_l line_widths (table n line)

  pub statement-length : length (top_bytes f h ++ lines) ≡ extra_of f.stated + line_start n
  statement-length =
      omega (arith, length-append (top_bytes f h) lines, top-length f h, lines-length letter_l line_widths n line full)

  pub statement-read : (b : List ℕ) (i : ℕ) → i < n → LineFits (line i)
      → record_at line_widths (body_in ((top_bytes f h ++ lines) ++ b)) (line_start i) ≡ line i
  unfolding body_in
  statement-read b i l fits =
      let whole = append_assoc (top_bytes f h) lines b in
      rw (
        whole,
        top-terms f h (lines ++ b),
        record-drop line_widths (top_bytes f h ++ (lines ++ b)) (extra_of f.stated) (line_start i),
        ← add_assoc (extra_of f.stated) head_size (i * line_size),
      )
      (lines-read letter_l line_widths n line full (top_bytes f h) b (extra_of f.stated + head_size) i (top-length f h) l fits)
