-- Little-endian numbers of any width in bytes (01, The files).
use Rattle.std.specs.Prelude.{ℕ, zero, suc, ◌+◌, ◌*◌, ◌/◌, ◌%◌, List, [], ◌∷◌, get_or}

-- the number in the w bytes from position k on, lowest byte first
unfoldable pub number_at : ℕ → List ℕ → ℕ → ℕ
number_at zero s k = 0
number_at (suc w) s k = get_or s k 0 + 256 * number_at w s (k + 1)

-- x in w bytes, lowest byte first
unfoldable pub number_bytes : ℕ → ℕ → List ℕ
number_bytes zero x = []
number_bytes (suc w) x = (x % 256) ∷ number_bytes w (x / 256)
