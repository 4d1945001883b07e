-- The checks of one file, as the code makes them: the head's, a row's, and the walk over rows.
--   ranged, unranged      the head's ranges, tested on a head that was read
--   good-terms, bad-terms     those of the terms, tested on a form that was read
--   short-own, not_short      the length by the head of the file's own mark
--   front-stops, front_goes   a head by itself first, then 4
--   long, not-long        the length, tested by a count that was read
--   checks-told           6 and 7, made of a row that was read; marked_row: they decide where the mark is right
--   Walked                how far the walk over rows has come; walk_none, -next, -stops, -ends: its steps
--   interval-refused, interval-rows      1 to 4 and 14 first, then the rows
use mathlib.Core.Path.{◌≡◌, sym, ap, ◌∙◌}
use Prim.Native.Nat.{ℕ, ◌+◌, ◌*◌, ◌≤◌, ◌<◌}
use mathlib.Core.Bool.{Bool, true, false, not}
use mathlib.Core.List.{List, [], ◌∷◌}
use native.Mathlib.Omega.{arith}
use lib.Dec.{eqb, ltb, lit<}
use lib.ListN.{length}
use Rattle.columns.specs.Test.{first_of}
use Rattle.columns.specs.Checks.{Refusal, check, first_refusal, placed, previous}
use Rattle.columns.proofs.First.{none-applies, first_stops, first_goes}
use Rattle.columns.proofs.Checks.{previous-none, previous-next, Passes, append-first, append-next, placed-told, placed-passes}
use Rattle.columns.proofs.Checks.{rows_none, rows_next, rows-stop, answer-no, answer-yes}
use borrow.Author.Tests.{lt-ltb, le-ltb, ltb-false}
use Rattle.columns.proofs.Choice.{differ, agree}
use Rattle.records.specs.Record.{marked}
use Rattle.files.specs.Layout.{head_size, row_size, letter_r, head_at, row_at, row_count}
use Rattle.files.specs.Terms.{terms01}
use Rattle.files.specs.Form.{terms_size, terms_at, states, terms_of, form_of, start_of, rows_from, row_start}
use Rattle.files.specs.Range.{head_ok, terms_ok}
use Rattle.files.specs.Walk.{id_of}
use Rattle.files.specs.Order.{front_checks, head_checks, row_checks, row_checks_at, row_checks_of, rows_order, own_order}
use Rattle.files.specs.Order.{interval_order, interval_fault, verdict}
use Rattle.files.specs.declared.Form.{Form}
use Rattle.files.specs.declared.Head.{Head}
use Rattle.files.specs.declared.Row.{Row}
use Rattle.files.specs.declared.Terms.{Terms}
use Rattle.files.specs.Verdict.{Verdict, Accepted, Refused}
use Rattle.files.proofs.Passed.{row_inside, head_passed}

pub unranged : (s : List ℕ) (h : Head) (b : Bool) → h ≡ head_at s → b ≡ head_ok h → not b ≡ true → not (head_ok (head_at s)) ≡ true
unranged s h b e f g = rw (← e, ← f) g

pub ranged : (s : List ℕ) (h : Head) (b : Bool) → h ≡ head_at s → b ≡ head_ok h → not b ≡ false → not (head_ok (head_at s)) ≡ false
ranged s h b e f g = rw (← e, ← f) g

-- the terms of the file, tested on its form
pub bad-terms : (s : List ℕ) (f : Form) (b : Bool) → f ≡ form_of s → b ≡ terms_ok f.terms → not b ≡ true → not (terms_ok (terms_of s)) ≡ true
bad-terms s f b e g h = rw (← ap (λ (x : Form). x.terms) e, ← g) h

pub good-terms : (s : List ℕ) (f : Form) (b : Bool) → f ≡ form_of s → b ≡ terms_ok f.terms → not b ≡ false → not (terms_ok (terms_of s)) ≡ false
good-terms s f b e g h = rw (← ap (λ (x : Form). x.terms) e, ← g) h

-- the length by the head of the file's own mark
pub short-own : (s : List ℕ) (start : ℕ) → start ≡ rows_from s → length s < start → ltb (length s) (rows_from s) ≡ true
short-own s start e l = rw (← e) (lt-ltb (length s) start l)

pub not_short : (s : List ℕ) (start : ℕ) → start ≡ rows_from s → start ≤ length s → ltb (length s) (rows_from s) ≡ false
not_short s start e l = rw (← e) (le-ltb (length s) start l)

pub own-there : (s : List ℕ) (start : ℕ) → start ≡ rows_from s → start ≤ length s → rows_from s ≤ length s
own-there s start e l = omega arith

-- the length that the count of rows asks for
pub not-long : (s : List ℕ) (start n : ℕ) → start ≡ rows_from s → n ≡ row_count s → (length s ≡ start + n * row_size → ⊥)
    → not (eqb (length s) (row_start s (row_count s))) ≡ true
not-long s start n f e h = rw (← f, ← e) (differ (length s) (start + n * row_size) h)

pub long : (s : List ℕ) (start n : ℕ) → start ≡ rows_from s → n ≡ row_count s → length s ≡ start + n * row_size
    → not (eqb (length s) (row_start s (row_count s))) ≡ false
long s start n f e h = rw (← f, ← e) (agree (length s) (start + n * row_size) h)

-- a head by itself first, then 4
pub front-stops : (s : List ℕ) (f : ℕ) → f ≡ first_of (front_checks s) → (f ≡ 0 → ⊥) → f ≡ first_of (head_checks s)
unfolding head_checks
front-stops s f e z = e ∙ sym (first_stops (front_checks s) (check (not (eqb (length s) (row_start s (row_count s)))) 4 ∷ []) (λ q. z (e ∙ q)))

pub front-there : (s : List ℕ) (f : ℕ) → f ≡ first_of (front_checks s) → f ≡ 0 → head_size ≤ length s
unfolding front_checks
front-there s f e z = ltb-false (length s) head_size (none-applies (check false 0) (front_checks s) tt (sym e ∙ z) 0 (lit< tt))

front_goes : (s : List ℕ) (f x : ℕ) → f ≡ first_of (front_checks s) → f ≡ 0
    → x ≡ first_of (check (not (eqb (length s) (row_start s (row_count s)))) 4 ∷ []) → x ≡ first_of (head_checks s)
unfolding head_checks front_checks
front_goes s f x e z h = h ∙ sym (first_goes (front_checks s) (check (not (eqb (length s) (row_start s (row_count s)))) 4 ∷ []) tt (sym e ∙ z))

pub checks-told : (t : Terms) (f last : ℕ) (r q : Row) → r ≡ q → f ≡ first_of (row_checks t r last) → f ≡ first_of (row_checks t q last)
checks-told t f last r q e h = rw (← e) h

-- 4, by where rows begin and by their count
module _ (s : List ℕ) (f start n : ℕ) (e : f ≡ first_of (front_checks s)) (z : f ≡ 0) (from : start ≡ rows_from s) (count : n ≡ row_count s) where
  pub length-wrong : (length s ≡ start + n * row_size → ⊥) → 4 ≡ first_of (head_checks s)
  length-wrong h = front_goes s f 4 e z (rw (not-long s start n from count h))

  pub length-right : length s ≡ start + n * row_size → 0 ≡ first_of (head_checks s)
  length-right h = front_goes s f 0 e z (rw (long s start n from count h))

-- of a row whose mark is right, 6 and 7 decide
pub marked_row : (t : Terms) (s : List ℕ) (start size i : ℕ) → marked s (start + i * size) letter_r ≡ true
    → first_of (row_checks_of t s start size i) ≡ first_of (row_checks t (row_at s (start + i * size)) (previous (id_of s start size) i))
unfolding row_checks_of row_checks_at
marked_row t s start size i e = rw e

pub record Walked (t : Terms) (s : List ℕ) (start size count last i : ℕ) : Type 0 where
  pub short : i ≤ count
  pub before : last ≡ previous (id_of s start size) i
  pub passes : Passes (rows_order t s start size i)

pub walk_none : (t : Terms) (s : List ℕ) (start size count : ℕ) → Walked t s start size count 0 0
walk_none t s start size count =
    record { short = omega arith; before = sym (previous-none (id_of s start size)); passes = rows_none (row_checks_of t s start size) }

-- row i of those that the walk goes over lies inside the file
pub walk-in : (s : List ℕ) (start size count i : ℕ) → start + count * size ≤ length s → row_size ≤ size → i < count
    → start + i * size + row_size ≤ length s
walk-in s start size count i le w l = omega (arith, row_inside s start size count i le l)

module _ (t : Terms) (s : List ℕ) (start size count last i f : ℕ) (w : Walked t s start size count last i) (l : i < count)
    (told : f ≡ first_of (row_checks_at t s (start + i * size) last)) where
  -- the number that the code has for row i is that of its checks
  row_told : f ≡ first_of (row_checks_of t s start size i)
  unfolding row_checks_of
  row_told = rw (← w.before) told

  pub walk-next : (id : ℕ) → f ≡ 0 → id ≡ (row_at s (start + i * size)).id → Walked t s start size count id (i + 1)
  unfolding row_checks_of row_checks_at row_checks
  walk-next id z e =
      record {
        short = omega arith;
        before = e ∙ sym (previous-next (id_of s start size) i);
        passes = rows_next (row_checks_of t s start size) i tt w.passes (sym row_told ∙ z);
      }

  pub walk-stops : (f ≡ 0 → ⊥) → Refused f (i + 1) ≡ verdict count (first_refusal (rows_order t s start size count))
  walk-stops z = sym (answer-no Refused (Accepted count) _ _ _ (rows-stop (row_checks_of t s start size) count i f l w.passes row_told z))

pub walk_ends : (t : Terms) (s : List ℕ) (start size count last i : ℕ) → Walked t s start size count last i → count ≤ i
    → Accepted count ≡ verdict count (first_refusal (rows_order t s start size count))
walk_ends t s start size count last i w l =
    let e : i ≡ count = omega (arith, w.short) in
    sym (answer-yes Refused (Accepted count) _ (rw e at w.passes))

-- ---- the form of a file, as the code reads it

module _ (s : List ℕ) (b : Bool) (told : b ≡ states s) where
  pub stated-long : b ≡ true → rows_from s ≤ length s → head_size + terms_size ≤ length s
  unfolding rows_from
  stated-long e l = rw (← told, e) at l

  pub form-stated : (t : Terms) → b ≡ true → t ≡ terms_at s → record { stated = true; terms = t } ≡ form_of s
  unfolding terms_of
  form-stated t e h = rw (← told, e, h)

  pub form-plain : b ≡ false → record { stated = false; terms = terms01 } ≡ form_of s
  unfolding terms_of
  form-plain e = rw (← told, e)

pub start-told : (s : List ℕ) (f : Form) (start : ℕ) → f ≡ form_of s → start ≡ start_of f.stated → start ≡ rows_from s
unfolding rows_from
start-told s f start e g = g ∙ ap (λ (x : Form). start_of x.stated) e

-- a head that is not refused
module _ (s : List ℕ) (f : ℕ) (e : f ≡ first_of (head_checks s)) (z : f ≡ 0) where
  pub head-there : head_size ≤ length s
  head-there = (head_passed s (sym e ∙ z)).long

  pub form-there : rows_from s ≤ length s
  form-there = (head_passed s (sym e ∙ z)).whole

  pub rows-there : (g : Form) (start n : ℕ) → g ≡ form_of s → start ≡ start_of g.stated → n ≡ row_count s → start + n * row_size ≤ length s
  rows-there g start n p q h = rw (start-told s g start p q, h) (omega (arith, (head_passed s (sym e ∙ z)).fits))

  pub interval-rows : (g : Form) (start n : ℕ) (v : Verdict) → g ≡ form_of s → start ≡ start_of g.stated → n ≡ row_count s
      → v ≡ verdict n (first_refusal (rows_order g.terms s start row_size n)) → v ≡ verdict (row_count s) (interval_fault s)
  unfolding interval_order head_checks front_checks
  interval-rows g start n v p q h o =
      let passes = placed-passes 0 (head_checks s) tt (sym e ∙ z) in
      rw (append-next (placed 0 (head_checks s)) (own_order s) passes, ← h, ← start-told s g start p q, ← ap (λ (x : Form). x.terms) p) o

pub interval-refused : (s : List ℕ) (f : ℕ) → f ≡ first_of (head_checks s) → (f ≡ 0 → ⊥)
    → Refused f 0 ≡ verdict (row_count s) (interval_fault s)
unfolding interval_order
interval-refused s f e z =
    let is = placed-told 0 f (head_checks s) e z in
    sym (answer-no Refused (Accepted (row_count s)) _ _ _
    (append-first (placed 0 (head_checks s)) (own_order s) (ap (λ (r : Refusal). r.applies) is) ∙ is))
