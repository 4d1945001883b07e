-- A head as the code writes and reads it: part by part, by the form or by the mark.
--   terms-room, terms-put, terms-none     the terms, where the form states them
--   parts-put                             front, terms and tail, one behind the other, are the head
--   tail-room, head-told                  a head read by its mark
use mathlib.Core.Path.{◌≡◌, sym, ap, ◌∙◌}
use mathlib.Core.Bool.{Bool, true, false}
use mathlib.Core.List.{List, ◌++◌, append_assoc}
use Prim.Native.Nat.{ℕ, ◌+◌, ◌-◌, ◌≤◌}
use native.Mathlib.Omega.{arith}
use lib.ListN.{length, length-append}
use Rattle.records.specs.Fields.{fields_bytes}
use Rattle.records.specs.Buffer.{put}
use Rattle.records.specs.Record.{marked, record_size, record_at, record_bytes}
use Rattle.records.proofs.Buffer.{put-none, put-put}
use Rattle.files.specs.Form.{terms_widths, terms_size, terms_fields, terms_bytes, stated_bytes}
use Rattle.files.specs.declared.Form.{Form}
use Rattle.statement.specs.Statement.{front_widths, front_size, tail_widths, head_size, letter_t, extra_of, front_fields}
use Rattle.statement.specs.Statement.{tail_fields, head_from, head_letter, top_bytes, has_terms, extra_in, head_in}
use Rattle.statement.specs.declared.StatementHead.{StatementHead}
use Rattle.statement.proofs.Laws.{front_length, stated-length, tail-length}

module _ (f : Form) (out : List ℕ) where
  pub terms-room : front_size + extra_of f.stated ≤ length out → f.stated ≡ true → front_size + terms_size ≤ length out
  terms-room l e = rw e at l

  pub terms-put : (xs after : List ℕ) → f.stated ≡ true → xs ≡ terms_fields f.terms → after ≡ put out front_size (fields_bytes terms_widths xs)
      → after ≡ put out front_size (stated_bytes f)
  unfolding terms_bytes
  terms-put xs after e h p = rw (e, ← h) p

  pub terms-none : f.stated ≡ false → out ≡ put out front_size (stated_bytes f)
  terms-none e = rw e (sym (put-none out front_size))

pub parts-put : (f : Form) (h : StatementHead) (out one two three xs ys : List ℕ) (letter extra : ℕ)
    → extra_of f.stated + head_size ≤ length out → xs ≡ front_fields h → letter ≡ head_letter f.stated
    → one ≡ put out 0 (record_bytes letter front_widths xs) → two ≡ put one front_size (stated_bytes f)
    → extra ≡ extra_of f.stated → ys ≡ tail_fields h → three ≡ put two (front_size + extra) (fields_bytes tail_widths ys) → three ≡ put out 0 (top_bytes f h)
unfolding top_bytes
parts-put f h out one two three xs ys letter extra room e g p q i t r =
    let front = record_bytes (head_letter f.stated) front_widths (front_fields h) in
    let terms = stated_bytes f in
    let tail = fields_bytes tail_widths (tail_fields h) in
    let long = front_length f.stated h in
    let more = stated-length f in
    let last = tail-length h in
    let both : put (put out 0 front) front_size terms ≡ put out 0 (front ++ terms) =
    put-put out 0 front_size front terms (omega (arith, long)) (omega (arith, long, more, room)) in
    let all : put (put out 0 (front ++ terms)) (front_size + extra_of f.stated) tail ≡ put out 0 ((front ++ terms) ++ tail) =
    put-put out 0 (front_size + extra_of f.stated) (front ++ terms) tail (omega (arith, long, more, length-append front terms))
    (omega (arith, long, more, last, room, length-append front terms)) in
    r ∙ rw (t, i, q, p, e, g, both, all, append_assoc front terms tail)

module _ (s : List ℕ) (b : Bool) (extra : ℕ) (mark : b ≡ marked s 0 letter_t) (is : extra ≡ extra_of b) where
  extra-told : extra ≡ extra_in s
  unfolding has_terms
  extra-told = is ∙ ap extra_of mark

  pub tail-room : extra_in s + head_size ≤ length s → front_size - 2 + extra + record_size tail_widths ≤ length s
  tail-room l = omega (arith, extra-told)

  pub head-told : (xs ys : List ℕ) → xs ≡ record_at front_widths s 0 → ys ≡ record_at tail_widths s (front_size - 2 + extra)
      → head_from xs ys ≡ head_in s
  unfolding head_in record_at
  head-told xs ys e g =
      let behind : front_size - 2 + extra + 2 ≡ front_size + extra = omega arith in
      rw (e, g, behind, extra-told)
