-- Lists by position: a column is a list of numbers with 0 past its end.
use Rattle.std.specs.Prelude.{ℕ, zero, suc, ◌<◌, List, [], ◌∷◌, ◌++◌, get_or}

-- what stands at position k of a column
abbrev pub at : List ℕ → ℕ → ℕ
at xs k = get_or xs k 0

-- the list f 0, f 1, .., f (n - 1)
unfoldable pub table : {A : Type 0} → ℕ → (ℕ → A) → List A
table zero f = []
table (suc n) f = table n f ++ (f n ∷ [])

-- P holds of every position below n
abbrev pub Below : ℕ → (ℕ → Type 0) → Type 0
Below n P = (k : ℕ) → k < n → P k
