-- Answers of the code, told by number and place.
--     told-ok, told-err            what an answer is told as
--     numbered, number-some        every fault has a number, from 1 to 14
--     told-one, fault-one          no two answers are told alike, so that a contract that says how an answer is told leaves it no choice
use Rattle.std.proofs.Common.{◌≡◌, ℕ, ◌≤◌, Result, Ok, Err, refl, sym, ◌∙◌, ap, ap₂, List, [], ◌∷◌, get_or, arith}
use Rattle.files.specs.Verdict.{Accepted, Refused, number_of, value_of, fault_number, fault_in, told, refused}
use Rattle.files.specs.declared.faults.Fault.{Fault}
use Rattle.files.specs.declared.faults.Fault.TheVariants.{ShortHead, UnknownMark, HeadRange, WrongLength, RowMark, RowRange, RowOrder, BadCorrection, OtherQuarter, NoSuchRow, ShortBuffer, TermsRange}
use Rattle.files.specs.declared.faults.Refusal.{Refusal}

pub told-ok : (r : Result ℕ Refusal) (n : ℕ) → r ≡ Ok n → told r ≡ Accepted n
told-ok r n e = ap told e

pub told-err : (r : Result ℕ Refusal) (x : Refusal) → r ≡ Err x → told r ≡ Refused (fault_number x.fault) x.place
told-err r x e = ap told e

-- the fault of a number, by its place among those that are named
faults : List Fault
faults =
    ShortHead ∷ ShortHead ∷ UnknownMark ∷ HeadRange ∷ WrongLength ∷ RowMark ∷ RowRange ∷ RowOrder ∷ BadCorrection ∷ OtherQuarter ∷ NoSuchRow
    ∷ ShortBuffer ∷ ShortBuffer ∷ ShortBuffer ∷ TermsRange ∷ []

abbrev named : ℕ → Fault
named n = get_or faults n ShortHead

named-back : (f : Fault) → named (fault_number f) ≡ f
unfolding faults
named-back ShortHead = refl
named-back UnknownMark = refl
named-back HeadRange = refl
named-back WrongLength = refl
named-back RowMark = refl
named-back RowRange = refl
named-back RowOrder = refl
named-back BadCorrection = refl
named-back OtherQuarter = refl
named-back NoSuchRow = refl
named-back ShortBuffer = refl
named-back TermsRange = refl

-- every fault has a number, at most the last
pub numbered : (f : Fault) → (1 ≤ fault_number f) × (fault_number f ≤ 14)
numbered ShortHead = (omega arith, omega arith)
numbered UnknownMark = (omega arith, omega arith)
numbered HeadRange = (omega arith, omega arith)
numbered WrongLength = (omega arith, omega arith)
numbered RowMark = (omega arith, omega arith)
numbered RowRange = (omega arith, omega arith)
numbered RowOrder = (omega arith, omega arith)
numbered BadCorrection = (omega arith, omega arith)
numbered OtherQuarter = (omega arith, omega arith)
numbered NoSuchRow = (omega arith, omega arith)
numbered ShortBuffer = (omega arith, omega arith)
numbered TermsRange = (omega arith, omega arith)

pub number-some : (f : Fault) → fault_number f ≡ 0 → ⊥
number-some f z = omega (arith, numbered f, z)

pub number-one : (f g : Fault) → fault_number f ≡ fault_number g → f ≡ g
number-one f g e = sym (named-back f) ∙ ap named e ∙ named-back g

pub fault-one : (r q : Result Unit Fault) → fault_in r ≡ fault_in q → r ≡ q
fault-one (Ok a) (Ok b) e = refl
fault-one (Ok a) (Err g) e = absurd (omega (arith, numbered g, e))
fault-one (Err f) (Ok b) e = absurd (omega (arith, numbered f, e))
fault-one (Err f) (Err g) e = ap (λ (x : Fault). Err x) (number-one f g e)

same-refusal : (x y : Refusal) → fault_number x.fault ≡ fault_number y.fault → x.place ≡ y.place → x ≡ y
same-refusal x y e p = ap₂ refused (number-one x.fault y.fault e) p

pub told-one : (r q : Result ℕ Refusal) → told r ≡ told q → r ≡ q
told-one (Ok n) (Ok m) e = ap (λ (x : ℕ). Ok x) (ap value_of e)
told-one (Ok n) (Err y) e = absurd (omega (arith, numbered y.fault, ap number_of e))
told-one (Err x) (Ok m) e = absurd (omega (arith, numbered x.fault, ap number_of e))
told-one (Err x) (Err y) e = ap (λ (z : Refusal). Err z) (same-refusal x y (ap number_of e) (ap value_of e))
