-- An answer, and what refuses.
--   tells            number and value of each answer
--   accepted-of      an acceptance: nothing refuses, and the count is the one stated
--   refused-of       a refusal: what refuses has this number and this place
--   zero-none, none-zero          01, Numbers of refusal: a pair of files gets number 0 exactly if no check applies
--   number-earliest, earliest-number  and number a ≠ 0 with place p exactly if the first check that applies has them
--   file-numbers, interval-numbers    the numbers of a pair of files, and of an interval by itself, are numbers of refusal
use mathlib.Core.Path.{◌≡◌, refl, ap}
use Prim.Native.Nat.{ℕ}
use mathlib.Core.Bool.{Bool, true, false, cond}
use mathlib.Core.List.{List, []}
use native.Mathlib.Omega.{arith}
use lib.Dec.{eqb}
use lib.ListN.{length}
use Rattle.columns.specs.Checks.{Refusal, refusal, placed, numbers_in, last_number, Earliest, NoneApplies, Tells}
use Rattle.columns.proofs.Checks as checks
use Rattle.files.specs.Layout.{row_count, correction_count}
use Rattle.files.specs.Form.{terms_of}
use Rattle.files.specs.Order.{front_checks, head_checks, row_checks, row_checks_at, row_checks_of, rows_order, own_order, their_order}
use Rattle.files.specs.Order.{interval_order, correction_order, name_checks}
use Rattle.files.specs.Order.{beside_order, present_order, file_order, verdict, verdict_of}
use Rattle.files.specs.declared.Terms.{Terms}
use Rattle.files.specs.Verdict.{Accepted, Refused, number_of, value_of}

apart : (n a p : ℕ) → Refused a p ≡ Accepted n → ⊥
apart n a p e = let z : ◌≡◌ {A = ℕ} 0 1 = cc in omega arith

pub tells : (n : ℕ) → Tells Refused (Accepted n) number_of value_of
tells n = record { given = refl; numbers = λ a p. refl; places = λ a p. refl; differs = apart n }

pub accepted-of : (n m : ℕ) (f : Refusal) → verdict n f ≡ Accepted m → (f.applies ≡ false) × (n ≡ m)
accepted-of n m f h =
    let both = checks.accepted-of Refused (Accepted n) f (Accepted m) (apart m) h in
    (both.0, ap value_of both.1)

pub refused-of : (n a p : ℕ) (f : Refusal) → verdict n f ≡ Refused a p → f ≡ refusal true a p
refused-of n a p f h = checks.refused-of Refused (Accepted n) number_of value_of (tells n) f a p h

rows-numbers : (t : Terms) (s : List ℕ) (start size n : ℕ) → numbers_in 1 last_number (rows_order t s start size n) ≡ true
unfolding row_checks_of row_checks_at row_checks
rows-numbers t s start size n = checks.numbers-rows 1 last_number n (row_checks_of t s start size) (λ i. refl)

pub interval-numbers : (s : List ℕ) → numbers_in 1 last_number (interval_order s) ≡ true
unfolding interval_order head_checks front_checks
interval-numbers s =
    checks.numbers-append 1 last_number (placed 0 (head_checks s)) (own_order s) refl (rows-numbers (terms_of s) s _ _ (row_count s))

present-numbers : (s k : List ℕ) → numbers_in 1 last_number (present_order s k) ≡ true
unfolding present_order correction_order beside_order name_checks
present-numbers s k =
    checks.numbers-append 1 last_number (correction_order (terms_of s) k) (beside_order s k)
    (checks.numbers-renumbered 1 last_number 8 (their_order (terms_of s) k) refl)
    (checks.numbers-rows 1 last_number (correction_count k) (name_checks s k) (λ j. refl))

module _ (s k : List ℕ) where
  pub file-numbers : numbers_in 1 last_number (file_order s k) ≡ true
  unfolding file_order
  file-numbers =
      checks.numbers-append 1 last_number (interval_order s) (cond (eqb (length k) 0) [] (present_order s k))
      (interval-numbers s) (pair (eqb (length k) 0)) where
        pair : (b : Bool) → numbers_in 1 last_number (cond b [] (present_order s k)) ≡ true
        pair true = refl
        pair false = present-numbers s k

  abbrev told : Tells Refused (Accepted (row_count s)) number_of value_of
  told = tells (row_count s)

  pub zero-none : number_of (verdict_of s k) ≡ 0 → NoneApplies (file_order s k)
  unfolding verdict_of
  zero-none = checks.zero-none Refused (Accepted (row_count s)) number_of value_of told (file_order s k) last_number file-numbers

  pub none-zero : NoneApplies (file_order s k) → number_of (verdict_of s k) ≡ 0
  unfolding verdict_of
  none-zero = checks.none-zero Refused (Accepted (row_count s)) number_of value_of told (file_order s k) last_number file-numbers

  pub number-earliest : (a p : ℕ) → (a ≡ 0 → ⊥) → number_of (verdict_of s k) ≡ a → value_of (verdict_of s k) ≡ p → Earliest (file_order s k) a p
  unfolding verdict_of
  number-earliest = checks.number-earliest Refused (Accepted (row_count s)) number_of value_of told (file_order s k) last_number file-numbers

  pub earliest-number : (a p : ℕ) → Earliest (file_order s k) a p → (number_of (verdict_of s k) ≡ a) × (value_of (verdict_of s k) ≡ p)
  unfolding verdict_of
  earliest-number = checks.earliest-number Refused (Accepted (row_count s)) number_of value_of told (file_order s k) last_number file-numbers
