-- A record in bytes: its fields one after the other, each in its own width (01, The files).
use Rattle.std.specs.Prelude.{ℕ, ◌+◌, List, [], ◌∷◌, ◌++◌}
use Rattle.records.specs.Number.{number_bytes}

-- how many bytes fields of these widths take
abbrev pub span : List ℕ → ℕ
span [] = 0
span (w ∷ ws) = w + span ws

-- the bytes of fields by their widths
unfoldable pub fields_bytes : List ℕ → List ℕ → List ℕ
fields_bytes [] xs = []
fields_bytes (w ∷ ws) [] = []
fields_bytes (w ∷ ws) (x ∷ xs) = number_bytes w x ++ fields_bytes ws xs
