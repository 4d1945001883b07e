-- A head, terms and a row by their tables of widths.
--   head-fits, terms-fit, row_fits      fields in their ranges fit their widths; an id's range is its width
--   head-said, terms-said, row-said     what is read has the fields that it was read from
--   rows_few              a head in its ranges has at most 256 rows
use mathlib.Core.Path.{◌≡◌, refl}
use mathlib.Core.Bool.{true}
use mathlib.Core.List.{List}
use Prim.Native.Nat.{ℕ, ◌^◌, ◌≤◌, ◌<◌}
use native.Mathlib.Nat.{mul-le-mul}
use native.Mathlib.Omega.{arith}
use Rattle.records.specs.Record.{fields_at, record_at, Fits}
use Rattle.files.specs.Range.{head_ok, terms_ok, row_ok}
use Rattle.files.specs.Layout.{head_size, head_widths, row_widths, head_at, head_fields, row_at, row_fields}
use Rattle.files.specs.Form.{terms_widths, terms_fields, terms_at}
use Rattle.files.specs.declared.Head.{Head}
use Rattle.files.specs.declared.Row.{Row}
use Rattle.files.specs.declared.Terms.{Terms}
use Rattle.files.proofs.Ranges.{head-ranges, row-ranges, sound-of}

pub head-said : (s : List ℕ) → head_fields (head_at s) ≡ record_at head_widths s 0
unfolding head_at record_at fields_at
head-said s = refl

pub terms-said : (s : List ℕ) → terms_fields (terms_at s) ≡ fields_at terms_widths s head_size
unfolding terms_at fields_at
terms-said s = refl

pub row-said : (s : List ℕ) (k : ℕ) → row_fields (row_at s k) ≡ record_at row_widths s k
unfolding row_at record_at fields_at
row-said s k = refl

pub rows_few : (h : Head) → head_ok h ≡ true → h.rows ≤ 256
rows_few h e = (head-ranges h e).rows

pub head-fits : (h : Head) → head_ok h ≡ true → Fits head_widths (head_fields h)
head-fits h e =
    let r = head-ranges h e in
    (omega arith, (omega arith, (omega arith, (omega arith, (omega arith, tt)))))

pub terms-fit : (t : Terms) → terms_ok t ≡ true → Fits terms_widths (terms_fields t)
terms-fit t e =
    let q = sound-of t e in
    (omega arith, (omega arith, (omega arith, (omega arith, (omega arith, tt)))))

pub row_fits : (t : Terms) (r : Row) → terms_ok t ≡ true → row_ok t r ≡ true → r.id < 256 ^ 2 → Fits row_widths (row_fields r)
row_fits t r ok e i =
    let q = row-ranges t r e in
    let sound = sound-of t ok in
    let most = mul-le-mul {n₂ = 2000} {m₂ = 50} q.capacity_high sound.below in
    (i, (omega arith, (omega arith, (omega arith, (omega arith, (omega arith, (omega arith, (omega arith, (omega arith, tt)))))))))
