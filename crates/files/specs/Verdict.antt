-- What a part of the engine answers, in the words of the rules (01, Numbers of refusal): accepted, with so many rows or bytes, or refused,
-- with a number and a place. The code answers with a `Result` whose error has a fault by name; `told` tells it by number and place. No two
-- answers are told alike (`proofs/Told.antt`, told-one).
use Rattle.std.specs.Prelude.{ℕ, Result, Ok, Err}
use Rattle.files.specs.declared.faults.Fault.{Fault}
use Rattle.files.specs.declared.faults.Fault.TheVariants.{ShortHead, UnknownMark, HeadRange, WrongLength, RowMark, RowRange, RowOrder, BadCorrection, OtherQuarter, NoSuchRow, ShortBuffer, TermsRange}
use Rattle.files.specs.declared.faults.Refusal.{Refusal}

pub data Verdict : Type 0 where
  Accepted : ℕ → Verdict
  Refused : ℕ → ℕ → Verdict

-- number and value of an answer: 0 and the count, or the refusal's number and its place
abbrev pub number_of : Verdict → ℕ
number_of (Accepted n) = 0
number_of (Refused number place) = number

abbrev pub value_of : Verdict → ℕ
value_of (Accepted n) = n
value_of (Refused number place) = place

-- the number of each fault
abbrev pub fault_number : Fault → ℕ
fault_number ShortHead = 1
fault_number UnknownMark = 2
fault_number HeadRange = 3
fault_number WrongLength = 4
fault_number RowMark = 5
fault_number RowRange = 6
fault_number RowOrder = 7
fault_number BadCorrection = 8
fault_number OtherQuarter = 9
fault_number NoSuchRow = 10
fault_number ShortBuffer = 11
fault_number TermsRange = 14

-- the number of the fault that checks at one place have found, 0 if they have found none
abbrev pub fault_in : {A : Type 0} → Result A Fault → ℕ
fault_in (Ok a) = 0
fault_in (Err fault) = fault_number fault

-- an answer by its number and place
abbrev pub told : Result ℕ Refusal → Verdict
told (Ok n) = Accepted n
told (Err refusal) = Refused (fault_number refusal.fault) refusal.place

-- a fault at a place
abbrev pub refused : Fault → ℕ → Refusal
refused fault place = record { fault = fault; place = place }
