-- Tests: a range by its ends, all of a list of tests, the first of an ordered list of checks that applies.
use Rattle.std.specs.Prelude.{ℕ, Bool, true, cond, ◌&&◌, List, [], ◌∷◌, leb}

-- x is from lo to hi, both included
abbrev pub within : ℕ → ℕ → ℕ → Bool
within lo hi x = leb lo x && leb x hi

-- every test of the list passes; joined from the left, as code writes a & b & c
abbrev pub all_from : Bool → List Bool → Bool
all_from t [] = t
all_from t (u ∷ us) = all_from (t && u) us

abbrev pub all_of : List Bool → Bool
all_of [] = true
all_of (t ∷ ts) = all_from t ts

-- a check: whether it applies, and its number
pub record Check : Type 0 where
  pub applies : Bool
  pub number : ℕ

-- the number of the first check that applies, and 0 if none does
abbrev pub first_of : List Check → ℕ
first_of [] = 0
first_of (c ∷ cs) = cond c.applies c.number (first_of cs)
