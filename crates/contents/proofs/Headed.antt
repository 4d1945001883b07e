-- A head by its form, with the terms behind it where it states them.
--   head-length       it is as long as its form says
--   made-known, made-states, made-from, made-head, made-terms     a file with this head in front: its mark, its form, and what it states
--   made-form         so its form is the one that the head was written by
--   stated-room, plain-room, head-stated, head_plain     what its code needs, and the head as it stands in a buffer
--   head-again        what a file's head says, written again, is the file's front
use mathlib.Core.Path.{◌≡◌, refl, sym, ap, ◌∙◌}
use mathlib.Core.Bool.{Bool, true, false, cond, ◌||◌}
use mathlib.Core.List.{List, [], ◌++◌, append_assoc, append-nil}
use Prim.Native.Nat.{ℕ, ◌+◌, ◌≤◌, ◌<◌}
use native.Mathlib.Omega.{arith}
use lib.Dec.{eqb}
use lib.ListN.{length, get_or, take, length-append}
use lib.Seq.{take-add}
use Rattle.records.specs.Buffer.{put}
use Rattle.records.specs.Fields.{fields_bytes}
use Rattle.records.specs.Record.{marked, record_bytes, Fits}
use Rattle.records.proofs.Buffer.{put-put}
use Rattle.records.proofs.Record.{fields-length, fields_read, fields-write, record-length, record-read, record-write}
use Rattle.files.specs.Layout.{head_widths, head_size, head_fields, head_of, head_at}
use Rattle.files.specs.Terms.{terms01}
use Rattle.files.specs.Form.{letter_h, letter_g, terms_widths, terms_size, terms_fields, terms_from, terms_at, terms_bytes, known, states, ruling}
use Rattle.files.specs.Form.{terms_of, form_of, start_of, rows_from, letter_of, stated_bytes, head_bytes}
use Rattle.files.specs.Range.{terms_ok}
use Rattle.files.specs.declared.Form.{Form}
use Rattle.files.specs.declared.Head.{Head}
use Rattle.files.specs.declared.Terms.{Terms}
use Rattle.contents.proofs.Record.{head-said, terms-said, terms-fit}

-- what a form states or does not, by cases
stated-fields : (t : Terms) (b : Bool) → b ≡ true → cond b (terms_bytes t) [] ≡ fields_bytes terms_widths (terms_fields t)
unfolding terms_bytes
stated-fields t b e = rw e

where-stated : (b : Bool) (x y : Terms) → (b ≡ true → x ≡ y) → cond b x terms01 ≡ cond b y terms01
where-stated true x y h = h refl
where-stated false x y h = refl

unstated : (b : Bool) (t : Terms) → (b ≡ false → t ≡ terms01) → cond b t terms01 ≡ t
unstated true t h = refl
unstated false t h = sym (h refl)

-- one of two tests passes, and the second does not
left_alone : (a b : Bool) → a || b ≡ true → b ≡ false → a ≡ true
left_alone true b h e = refl
left_alone false b h e = sym e ∙ h

-- ---- written, then read

stated-length : (f : Form) → head_size + length (stated_bytes f) ≡ start_of f.stated
unfolding terms_bytes
stated-length f = go f.stated where
  go : (b : Bool) → head_size + length (cond b (terms_bytes f.terms) []) ≡ start_of b
  go true = omega (arith, fields-length terms_widths (terms_fields f.terms) refl)
  go false = refl

module _ (f : Form) (h : Head) where
  -- the part that all heads share
  abbrev front : List ℕ
  front = record_bytes (letter_of f) head_widths (head_fields h)

  front_length : length front ≡ head_size
  front_length = record-length (letter_of f) head_widths (head_fields h) refl

  pub head-length : length (head_bytes f h) ≡ start_of f.stated
  unfolding head_bytes
  head-length = length-append front (stated_bytes f) ∙ rw front_length (stated-length f)

  module _ (b : List ℕ) where
    behind : head_bytes f h ++ b ≡ front ++ (stated_bytes f ++ b)
    unfolding head_bytes
    behind = append_assoc front (stated_bytes f) b

    pub made-known : known (head_bytes f h ++ b) ≡ true
    unfolding known head_bytes record_bytes
    made-known = go f.stated where
      go : (b : Bool) → eqb (cond b letter_g letter_h) letter_h || eqb (cond b letter_g letter_h) letter_g ≡ true
      go true = refl
      go false = refl

    pub made-states : states (head_bytes f h ++ b) ≡ f.stated
    unfolding states head_bytes record_bytes
    made-states = go f.stated where
      go : (b : Bool) → eqb (cond b letter_g letter_h) letter_g ≡ b
      go true = refl
      go false = refl

    pub made-from : rows_from (head_bytes f h ++ b) ≡ start_of f.stated
    unfolding rows_from
    made-from = ap start_of made-states

    pub made-head : Fits head_widths (head_fields h) → head_at (head_bytes f h ++ b) ≡ h
    unfolding head_at
    made-head fits = rw behind (ap head_of (record-read (letter_of f) head_widths (head_fields h) [] (stated_bytes f ++ b) refl fits))

    -- the terms that it states
    terms-read : f.stated ≡ true → terms_ok f.terms ≡ true → terms_at (head_bytes f h ++ b) ≡ f.terms
    unfolding terms_at
    terms-read e ok =
        let fields = terms_fields f.terms in
        let stated : stated_bytes f ≡ fields_bytes terms_widths fields = stated-fields f.terms f.stated e in
        let read = fields_read terms_widths fields front b refl (terms-fit f.terms ok) in
        rw (behind, stated) (ap terms_from (rw front_length at read))

    pub made-terms : terms_ok (ruling f) ≡ true → terms_of (head_bytes f h ++ b) ≡ ruling f
    unfolding terms_of
    made-terms ok =
        rw made-states (where-stated f.stated (terms_at (head_bytes f h ++ b)) f.terms (λ e. terms-read e (rw e at ok)))

    pub made-form : terms_ok (ruling f) ≡ true → (f.stated ≡ false → f.terms ≡ terms01) → form_of (head_bytes f h ++ b) ≡ f
    made-form ok plain = rw (made-states, made-terms ok, unstated f.stated f.terms plain)

-- ---- read, then written

module _ (s : List ℕ) (bytes : (i : ℕ) → get_or s i 0 < 256) (long : head_size ≤ length s) (whole : rows_from s ≤ length s)
    (mark : known s ≡ true) where
  own-mark : marked s 0 (letter_of (form_of s)) ≡ true
  unfolding known states
  own-mark = go (marked s 0 letter_g) refl where
    go : (b : Bool) → marked s 0 letter_g ≡ b → marked s 0 (cond b letter_g letter_h) ≡ true
    go true e = e
    go false e = left_alone (marked s 0 letter_h) (marked s 0 letter_g) mark e

  stated-again : (b : Bool) → states s ≡ b → take head_size s ++ cond b (terms_bytes (terms_of s)) [] ≡ take (start_of b) s
  unfolding terms_of terms_bytes rows_from
  stated-again true e =
      rw (e, terms-said s, fields-write terms_widths s head_size bytes (rw e at whole)) (sym (take-add head_size terms_size s))
  stated-again false e = append-nil (take head_size s)

  pub head-again : head_bytes (form_of s) (head_at s) ≡ take (rows_from s) s
  unfolding head_bytes rows_from
  head-again = rw (head-said s, record-write (letter_of (form_of s)) head_widths s 0 bytes long own-mark) (stated-again (states s) refl)

-- ---- as the code writes it

module _ (f : Form) (out : List ℕ) (room : start_of f.stated ≤ length out) where
  pub stated-room : (l : List ℕ) → length l ≡ length out → f.stated ≡ true → head_size + terms_size ≤ length l
  stated-room l same e = rw (e, ← same) at room

  pub plain-room : head_size ≤ length out
  plain-room = omega (arith, stated-length f)

  module _ (h : Head) (xs l : List ℕ) (fields : xs ≡ head_fields h) where
    pub head-stated : (ts m : List ℕ) → f.stated ≡ true → ts ≡ terms_fields f.terms → l ≡ put out 0 (record_bytes letter_g head_widths xs)
        → m ≡ put l head_size (fields_bytes terms_widths ts) → m ≡ put out 0 (head_bytes f h)
    unfolding head_bytes terms_bytes
    head-stated ts m e t p q =
        let first = record_bytes letter_g head_widths (head_fields h) in
        let long : head_size ≡ 0 + length first = omega (arith, record-length letter_g head_widths (head_fields h) refl) in
        q ∙ rw (p, fields, t, e) (put-put out 0 head_size first (fields_bytes terms_widths (terms_fields f.terms)) long (omega arith))

    pub head_plain : f.stated ≡ false → l ≡ put out 0 (record_bytes letter_h head_widths xs) → l ≡ put out 0 (head_bytes f h)
    unfolding head_bytes
    head_plain e p = p ∙ rw (fields, e, append-nil (record_bytes letter_h head_widths (head_fields h)))
