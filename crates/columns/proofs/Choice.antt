-- From what code has tested to the value of a definition that chooses by `cond`: hand `search checks` to a return.
--   yes, no              a choice whose test passes, or fails
--   not_yes, not-no      a test that code negates, told by a call that answers the definition's test
--   told-no, told-yes    the definition's test itself, where code negated a call's answer
--   differ, agree        a negated test of equality
--   checks               all of these, with the orders of numbers, as one set
use mathlib.Core.Path.{◌≡◌, sym, ap, ◌∙◌}
use Prim.Native.Nat.{ℕ}
use mathlib.Core.Bool.{Bool, true, false, not, cond}
use lib.Dec.{eqb}
use borrow.Author.Tests.{lt-ltb, le-ltb, le-leb, lt-leb, eq-eqb, ne_eqb, not-true, not-false}

pub yes : {A : Type 0} (t : Bool) (x y z : A) → t ≡ true → z ≡ x → z ≡ cond t x y
yes t x y z e p = rw e p

pub no : {A : Type 0} (t : Bool) (x y z : A) → t ≡ false → z ≡ y → z ≡ cond t x y
no t x y z e p = rw e p

pub not_yes : (b t : Bool) → b ≡ t → not b ≡ true → not t ≡ true
not_yes b t e h = ap not (sym e) ∙ h

pub not-no : (b t : Bool) → b ≡ t → not b ≡ false → not t ≡ false
not-no b t e h = ap not (sym e) ∙ h

pub told-no : (b t : Bool) → b ≡ t → not b ≡ true → t ≡ false
told-no b t e h = sym e ∙ not-true b h

pub told-yes : (b t : Bool) → b ≡ t → not b ≡ false → t ≡ true
told-yes b t e h = sym e ∙ not-false b h

pub differ : (a b : ℕ) → (a ≡ b → ⊥) → not (eqb a b) ≡ true
differ a b h = ap not (ne_eqb a b h)

pub agree : (a b : ℕ) → a ≡ b → not (eqb a b) ≡ false
agree a b e = ap not (eq-eqb a b e)

pub ruleset checks = (yes, no, not_yes, not-no, told-no, told-yes, differ, agree, lt-ltb, le-ltb, le-leb, lt-leb, eq-eqb, ne_eqb)
