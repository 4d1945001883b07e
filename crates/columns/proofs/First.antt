-- An ordered list of checks, and a list of tests: what their answers say of each.
--   first_stops, first_goes     two lists of checks one after the other: the first of them decides, or the second
--   none-applies   a list of checks with numbers above 0 that gave 0: the check at any position does not apply
--   both_left, both_right, left-true, right-true      both of two tests pass: the one does, and the other
--   and-false      one of two tests fails: not both pass
--   each           a list of tests that all pass: the test at any position does
use mathlib.Core.Path.{◌≡◌, refl, sym, subst}
use Prim.Native.Nat.{ℕ, zero, suc, ◌<◌}
use mathlib.Core.Bool.{Bool, true, false, cond, ◌&&◌}
use mathlib.Core.List.{List, [], ◌∷◌, ◌++◌}
use native.Mathlib.Nat.{le_of_suc-le-suc}
use native.Mathlib.Omega.{arith}
use lib.Dec.{T, ltb, ltb→lt}
use lib.ListN.{length, get_or}
use Rattle.columns.specs.Test.{Check, first_of, all_of, all_from}

-- every check of the list has a number above 0
abbrev pub numbered : List Check → Bool
numbered [] = true
numbered (c ∷ cs) = ltb 0 c.number && numbered cs

pub both_left : (a b : Bool) → T (a && b) → T a
both_left true b t = tt
both_left false b t = t

pub both_right : (a b : Bool) → T (a && b) → T b
both_right true b t = t
both_right false b t = absurd t

passed : (t : Bool) (n y : ℕ) → 0 < n → cond t n y ≡ 0 → (t ≡ false) × (y ≡ 0)
passed true n y p h = absurd (omega arith)
passed false n y p h = (refl, h)

pub none-applies : (d : Check) (cs : List Check) → T (numbered cs) → first_of cs ≡ 0 → (i : ℕ) → i < length cs → (get_or cs i d).applies ≡ false
none-applies d [] t h i l = absurd (omega arith)
none-applies d (c ∷ cs) t h zero l =
    (passed c.applies c.number (first_of cs) (ltb→lt 0 c.number (both_left (ltb 0 c.number) (numbered cs) t)) h).0
none-applies d (c ∷ cs) t h (suc i) l =
    let rest = (passed c.applies c.number (first_of cs) (ltb→lt 0 c.number (both_left (ltb 0 c.number) (numbered cs) t)) h).1 in
    none-applies d cs (both_right (ltb 0 c.number) (numbered cs) t) rest i (le_of_suc-le-suc l)

pub first_stops : (cs ds : List Check) → (first_of cs ≡ 0 → ⊥) → first_of (cs ++ ds) ≡ first_of cs
first_stops [] ds z = absurd (z refl)
first_stops (c ∷ cs) ds z = go c.applies (first_stops cs ds) z where
  go : (t : Bool) → ((first_of cs ≡ 0 → ⊥) → first_of (cs ++ ds) ≡ first_of cs) → (cond t c.number (first_of cs) ≡ 0 → ⊥)
      → cond t c.number (first_of (cs ++ ds)) ≡ cond t c.number (first_of cs)
  go true more z = refl
  go false more z = more z

pub first_goes : (cs ds : List Check) → T (numbered cs) → first_of cs ≡ 0 → first_of (cs ++ ds) ≡ first_of ds
first_goes [] ds t h = refl
first_goes (c ∷ cs) ds t h =
    let none = passed c.applies c.number (first_of cs) (ltb→lt 0 c.number (both_left (ltb 0 c.number) (numbered cs) t)) h in
    rw none.0 (first_goes cs ds (both_right (ltb 0 c.number) (numbered cs) t) none.1)

pub left-true : (a b : Bool) → a && b ≡ true → a ≡ true
left-true true b e = refl
left-true false b e = e

pub right-true : (a b : Bool) → a && b ≡ true → b ≡ true
right-true true b e = e
right-true false b e = absurd (subst T (sym e) tt)

pub and-false : (t : Bool) → t && false ≡ false
and-false true = refl
and-false false = refl

-- all of t and us pass: t does, and so does each of us
from-both : (t : Bool) (us : List Bool) → all_from t us ≡ true → (t ≡ true) × ((i : ℕ) → i < length us → get_or us i true ≡ true)
from-both t [] h = (h, λ i l. refl)
from-both t (u ∷ us) h =
    let rest = from-both (t && u) us h in
    (left-true t u rest.0, at (right-true t u rest.0) rest.1) where
      at : u ≡ true → ((i : ℕ) → i < length us → get_or us i true ≡ true) → (i : ℕ) → i < length (u ∷ us) → get_or (u ∷ us) i true ≡ true
      at e f zero l = e
      at e f (suc i) l = f i (le_of_suc-le-suc l)

pub each : (ts : List Bool) → all_of ts ≡ true → (i : ℕ) → i < length ts → get_or ts i true ≡ true
each [] h i l = refl
each (t ∷ ts) h zero l = (from-both t ts h).0
each (t ∷ ts) h (suc i) l = (from-both t ts h).1 i (le_of_suc-le-suc l)
