-- A head that passed 1 to 4 and 14, and rows that passed 5 to 7: all in their ranges, with ids that rise strictly.
--   from-least, from-most      a head has at least the fields that all heads share, and at most the terms besides
--   head_passed    a head with no refusal: long enough, of a known mark, in its ranges, and the file as long as it says
--   row_inside     one of n rows of `size` bytes lies inside the file, if all of them do
--   row-passed     a row with no refusal: its mark, its ranges, its id above the one before
--   rows-passed    the same of each of n rows
--   rows-sound     n rows with no refusal, all inside the file, are `Rows`
use mathlib.Core.Path.{◌≡◌}
use mathlib.Core.Logic.{⊎_elim}
use Prim.Native.Nat.{ℕ, zero, suc, ◌+◌, ◌*◌, ◌≤◌, ◌<◌}
use native.Mathlib.Nat.{mul-le-mul_right}
use mathlib.Core.Bool.{Bool, true, false}
use mathlib.Core.List.{List}
use native.Mathlib.Omega.{arith}
use lib.Dec.{eqb, lit<, lit≤}
use lib.ListN.{length}
use borrow.Author.Tests.{not-false, leb-false, ltb-false, eqb-true}
use Rattle.columns.specs.Test.{Check, first_of}
use Rattle.columns.specs.Checks.{check, previous}
use Rattle.columns.proofs.Checks.{Passes, rows-each}
use Rattle.columns.proofs.First.{none-applies}
use Rattle.columns.proofs.Sum.{lt-or-le}
use Rattle.records.specs.Record.{marked}
use Rattle.files.specs.Layout.{head_size, row_size, letter_r, head_at, row_at, row_count}
use Rattle.files.specs.Form.{terms_size, known, states, terms_of, start_of, rows_from, row_start}
use Rattle.files.specs.Range.{head_ok, terms_ok, row_ok}
use Rattle.files.specs.Walk.{id_of, Rows}
use Rattle.files.specs.Order.{front_checks, head_checks, row_checks, row_checks_at, row_checks_of, rows_order}
use Rattle.files.specs.declared.Terms.{Terms}

-- what stands past a list's end
abbrev past : Check
past = check false 0

pub from-least : (s : List ℕ) → head_size ≤ rows_from s
unfolding rows_from
from-least s = go (states s) where
  go : (b : Bool) → head_size ≤ start_of b
  go true = lit≤ tt
  go false = lit≤ tt

pub from-most : (s : List ℕ) → rows_from s ≤ head_size + terms_size
unfolding rows_from
from-most s = go (states s) where
  go : (b : Bool) → start_of b ≤ head_size + terms_size
  go true = lit≤ tt
  go false = lit≤ tt

pub record HeadPassed (s : List ℕ) : Type 0 where
  pub long : head_size ≤ length s
  pub mark : known s ≡ true
  pub whole : rows_from s ≤ length s
  pub ok : head_ok (head_at s) ≡ true
  pub terms : terms_ok (terms_of s) ≡ true
  pub fits : length s ≡ row_start s (row_count s)

pub head_passed : (s : List ℕ) → first_of (head_checks s) ≡ 0 → HeadPassed s
unfolding head_checks front_checks
head_passed s h =
    let each = none-applies past (head_checks s) tt h in
    record {
      long = ltb-false (length s) head_size (each 0 (lit< tt));
      mark = not-false (known s) (each 1 (lit< tt));
      whole = ltb-false (length s) (rows_from s) (each 2 (lit< tt));
      ok = not-false (head_ok (head_at s)) (each 3 (lit< tt));
      terms = not-false (terms_ok (terms_of s)) (each 4 (lit< tt));
      fits = eqb-true (length s) (row_start s (row_count s)) (not-false (eqb (length s) (row_start s (row_count s))) (each 5 (lit< tt)));
    }

pub record Passed (t : Terms) (s : List ℕ) (k last : ℕ) : Type 0 where
  pub mark : marked s k letter_r ≡ true
  pub ok : row_ok t (row_at s k) ≡ true
  pub above : last < (row_at s k).id

pub row-passed : (t : Terms) (s : List ℕ) (k last : ℕ) → first_of (row_checks_at t s k last) ≡ 0 → Passed t s k last
unfolding row_checks_at row_checks
row-passed t s k last h =
    let each = none-applies past (row_checks_at t s k last) tt h in
    record {
      mark = not-false (marked s k letter_r) (each 0 (lit< tt));
      ok = not-false (row_ok t (row_at s k)) (each 1 (lit< tt));
      above = leb-false (row_at s k).id last (each 2 (lit< tt));
    }

pub row_inside : (s : List ℕ) (start size n i : ℕ) → start + n * size ≤ length s → i < n → start + i * size + size ≤ length s
row_inside s start size n i le l = omega (arith, mul-le-mul_right size l)

module _ (t : Terms) (s : List ℕ) (start size n : ℕ) (h : Passes (rows_order t s start size n)) where
  pub rows-passed : (i : ℕ) → i < n → Passed t s (start + i * size) (previous (id_of s start size) i)
  unfolding row_checks_of
  rows-passed i l =
      row-passed t s (start + i * size) (previous (id_of s start size) i) (rows-each (row_checks_of t s start size) n i h l)

  next-above : (j : ℕ) → suc j < n → id_of s start size j < id_of s start size (suc j)
  unfolding previous
  next-above j l = (rows-passed (suc j) l).above

  rows-rise : (i j : ℕ) → i < j → j < n → id_of s start size i < id_of s start size j
  rows-rise i zero l m = absurd (omega arith)
  rows-rise i (suc j) l m =
      ⊎_elim (λ (o : i < j). omega (arith, rows-rise i j o (omega arith), next-above j m))
      (λ (o : j ≤ i). let e : i ≡ j = omega arith in rw e (next-above j m)) (lt-or-le i j)

  pub rows-sound : row_size ≤ size → start + n * size ≤ length s → Rows s start size n
  rows-sound w le = record { wide = w; inside = λ i l. row_inside s start size n i le l; rising = rows-rise }
