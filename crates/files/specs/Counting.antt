-- Which bytes count for a row, and the rows that count (01, The files).
use Rattle.std.specs.Prelude.{ℕ, ◌+◌, ◌≡◌, cond, List, [], ltb, length, take, drop}
use Rattle.files.specs.Layout.{row_size, correction_start, row_at, row_count, correction_count}
use Rattle.files.specs.Form.{row_start}
use Rattle.files.specs.Walk.{own_id, in_interval, in_correction}
use Rattle.files.specs.Order.{file_fault}
use Rattle.files.specs.declared.Row.{Row}

-- the bytes of a row of `size` bytes from position k on
abbrev pub part : ℕ → List ℕ → ℕ → List ℕ
part size s k = take size (drop k s)

-- the bytes of an id's row: out of the correction where it names the row, else out of the interval, else none
unfoldable pub named : List ℕ → List ℕ → ℕ → List ℕ
named s k id =
    cond (ltb (in_correction k id) (correction_count k)) (part row_size k (correction_start (in_correction k id)))
    (cond (ltb (in_interval s id) (row_count s)) (part row_size s (row_start s (in_interval s id))) [])

-- the bytes that count for an id; none where a check of the files refuses the pair
unfoldable pub counting_bytes : List ℕ → List ℕ → ℕ → List ℕ
counting_bytes s k id = cond (file_fault s k).applies [] (named s k id)

-- where the row that counts for row i stands: 0 for the interval's own, else 1 more than the correction's row number
unfoldable pub source_of : List ℕ → List ℕ → ℕ → ℕ
source_of s k i =
    let j = in_correction k (own_id s i) in
    cond (ltb j (correction_count k)) (j + 1) 0

-- row i of an accepted pair, with the correction's row in its place where there is one
unfoldable pub counting_row : List ℕ → List ℕ → ℕ → Row
counting_row s k i =
    let j = in_correction k (own_id s i) in
    cond (ltb j (correction_count k)) (row_at k (correction_start j)) (row_at s (row_start s i))

-- bytes of a row alone, and the row that they say
pub record Shows (p : List ℕ) (r : Row) : Type 0 where
  pub long : length p ≡ row_size
  pub is : row_at p 0 ≡ r
