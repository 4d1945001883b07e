-- Rows one after the other: their ids, a row found by its id, and what a walk over them rests on once 1 to 7 and 14 have passed.
use Rattle.std.specs.Prelude.{ℕ, ◌+◌, ◌*◌, ◌≤◌, ◌<◌, ◌≡◌, Bool, List, eqb, length}
use Rattle.columns.specs.Sum.{find_to}
use Rattle.files.specs.Layout.{row_size, correction_head_size, row_at, row_count, correction_count}
use Rattle.files.specs.Form.{rows_from}

-- rows of `size` bytes each, the first at byte `start`: the id of row i
abbrev pub id_of : List ℕ → ℕ → ℕ → ℕ → ℕ
id_of s start size i = (row_at s (start + i * size)).id

-- row i has this id
unfoldable pub has_id : List ℕ → ℕ → ℕ → ℕ → ℕ → Bool
has_id s start size id i = eqb (id_of s start size i) id

-- the first of n rows that has this id, and n if none has
unfoldable pub find_id : List ℕ → ℕ → ℕ → ℕ → ℕ → ℕ
find_id s start size n id = find_to n (has_id s start size id)

-- the id of row i of an interval
abbrev pub own_id : List ℕ → ℕ → ℕ
own_id s i = id_of s (rows_from s) row_size i

-- where an interval has an id, counted from 0, and where a correction has it; the count of rows where it has not
abbrev pub in_interval : List ℕ → ℕ → ℕ
in_interval s id = find_id s (rows_from s) row_size (row_count s) id

abbrev pub in_correction : List ℕ → ℕ → ℕ
in_correction k id = find_id k correction_head_size row_size (correction_count k) id

-- n rows: long enough for the fields that all forms of row have, all there, ids strictly rising
pub record Rows (s : List ℕ) (start size n : ℕ) : Type 0 where
  pub wide : row_size ≤ size
  pub inside : (i : ℕ) → i < n → start + i * size + size ≤ length s
  pub rising : (i j : ℕ) → i < j → j < n → id_of s start size i < id_of s start size j

-- a file whose head announces n rows, and they are there
pub record Holds (s : List ℕ) (start size count n : ℕ) : Type 0 where
  pub long : start ≤ length s
  pub told : n ≡ count
  pub rows : Rows s start size n

-- an interval of n rows that passed 1 to 7 and 14, a correction of m rows that passed 8
abbrev pub Own : List ℕ → ℕ → Type 0
Own s n = Holds s (rows_from s) row_size (row_count s) n

abbrev pub Theirs : List ℕ → ℕ → Type 0
Theirs k m = Holds k correction_head_size row_size (correction_count k) m

-- the first i rows have ids below this one
abbrev pub Under : List ℕ → ℕ → ℕ → ℕ → ℕ → Type 0
Under s start size i id = (x : ℕ) → x < i → id_of s start size x < id

-- r is the first row whose id is not below this one, or n if there is none
pub record Sought (s : List ℕ) (start size n id r : ℕ) : Type 0 where
  pub short : r ≤ n
  pub under : Under s start size r id
  pub reached : r < n → id ≤ id_of s start size r
