-- The sharing rule (01, Sharing a whole amount): an amount a is divided over the column ws of weights.
-- `shares` is the rule; `rank` orders the leftovers. `first` is the position whose turn comes first among equal
-- remainders: where it is 0, that is the lower id.
use Rattle.std.specs.Prelude.{ℕ, ◌+◌, ◌-◌, ◌*◌, ◌/◌, ◌%◌, ◌≤◌, Bool, cond, ◌&&◌, ◌||◌, List, ltb, eqb, length}
use Rattle.columns.specs.Sum.{bit, sum_to, count_to, whole}
use Rattle.columns.specs.Table.{at, table}

-- what position i gets first: amount times weight divided by the sum, cut to a whole number
unfoldable pub quota : ℕ → List ℕ → ℕ → ℕ
quota a ws i = a * at ws i / whole ws

-- the remainder of that division
unfoldable pub rest : ℕ → List ℕ → ℕ → ℕ
rest a ws i = a * at ws i % whole ws

-- how far position i stands behind `first`, going round
unfoldable pub turn : ℕ → ℕ → ℕ → ℕ
turn n first i = (i + n - first) % n

-- position i is served before position j: a larger remainder, or an equal one and an earlier turn
unfoldable pub before : ℕ → List ℕ → ℕ → ℕ → ℕ → Bool
before a ws first i j =
    ltb (rest a ws j) (rest a ws i)
    || (eqb (rest a ws i) (rest a ws j) && ltb (turn (length ws) first i) (turn (length ws) first j))

-- how many positions are served before position i
unfoldable pub rank : ℕ → List ℕ → ℕ → ℕ → ℕ
rank a ws first i = count_to (length ws) (λ j. before a ws first j i)

-- what the quotas leave of the amount
unfoldable pub left : ℕ → List ℕ → ℕ
left a ws = a - sum_to (length ws) (quota a ws)

-- what position i gets: its quota, and one more if it is among the first `left` to be served; 0 if no weight is above 0
unfoldable pub share : ℕ → List ℕ → ℕ → ℕ → ℕ
share a ws first i = cond (eqb (whole ws) 0) 0 (quota a ws i + bit (ltb (rank a ws first i) (left a ws)))

-- the whole column
unfoldable pub shares : ℕ → List ℕ → ℕ → List ℕ
shares a ws first = table (length ws) (share a ws first)

-- x is y, or one more: what of two alike the one has whose turn comes first
abbrev pub SameOrOneMore : ℕ → ℕ → Type 0
SameOrOneMore x y = (y ≤ x) × (x ≤ y + 1)
