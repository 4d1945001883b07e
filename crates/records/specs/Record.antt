-- A record in bytes (01, The files): its mark, the letter P and a letter of its own, then its fields by a table of widths.
use Rattle.std.specs.Prelude.{ℕ, suc, ◌+◌, ◌<◌, ◌^◌, Bool, true, ◌&&◌, List, [], ◌∷◌, ◌++◌, eqb, leb, get_or}
use Rattle.columns.specs.Table.{at}
use Rattle.records.specs.Number.{number_at}
use Rattle.records.specs.Fields.{span, fields_bytes}

-- the letter P, in front of every mark
abbrev pub letter_p : ℕ
letter_p = 80

-- a record's mark stands at position k
abbrev pub marked : List ℕ → ℕ → ℕ → Bool
marked s k letter = eqb (get_or s k 0) letter_p && eqb (get_or s (k + 1) 0) letter

-- how many bytes a record takes, with its mark
abbrev pub record_size : List ℕ → ℕ
record_size ws = 2 + span ws

-- the fields from position k on, and those of the record whose mark stands there
unfoldable pub fields_at : List ℕ → List ℕ → ℕ → List ℕ
fields_at [] s k = []
fields_at (w ∷ ws) s k = number_at w s k ∷ fields_at ws s (k + w)

unfoldable pub record_at : List ℕ → List ℕ → ℕ → List ℕ
record_at ws s k = fields_at ws s (k + 2)

-- a record's bytes, and those of many records one after the other
unfoldable pub record_bytes : ℕ → List ℕ → List ℕ → List ℕ
record_bytes letter ws xs = letter_p ∷ letter ∷ fields_bytes ws xs

unfoldable pub records_bytes : ℕ → List ℕ → List (List ℕ) → List ℕ
records_bytes letter ws [] = []
records_bytes letter ws (xs ∷ xss) = record_bytes letter ws xs ++ records_bytes letter ws xss

-- every width is that of a number of at most 64 bits
abbrev pub narrow : List ℕ → Bool
narrow [] = true
narrow (w ∷ ws) = leb w 8 && narrow ws

-- each of the numbers fits its width; of a literal table this is one order for each of its fields
abbrev pub FitsFrom : ℕ → List ℕ → List ℕ → Type 0
FitsFrom i [] xs = Unit {0}
FitsFrom i (w ∷ ws) xs = (at xs i < 256 ^ w) × FitsFrom (suc i) ws xs

abbrev pub Fits : List ℕ → List ℕ → Type 0
Fits ws xs = FitsFrom 0 ws xs
