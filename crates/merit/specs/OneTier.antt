-- What the bands of one tier are called for by its own widths and bids (01, Calls and prices; Article 26). Where tiers are `Apart`
-- this is what specs/Call.antt says of both: tier 1 by itself, then tier 2 with what tier 1 leaves of the need (proofs/Apart.antt).
use Rattle.std.specs.Prelude.{ℕ, ◌-◌, min, cond, List, ltb, eqb, length}
use Rattle.columns.specs.Sum.{sum_to, whole}
use Rattle.columns.specs.Table.{at, table}
use Rattle.share.specs.Share.{share}

-- the width of band i if its bid is below k
unfoldable pub under : List ℕ → List ℕ → ℕ → ℕ → ℕ
under ws bs k i = cond (ltb (at bs i) k) (at ws i) 0

-- its width if its bid is k
unfoldable pub equal : List ℕ → List ℕ → ℕ → ℕ → ℕ
equal ws bs k i = cond (eqb (at bs i) k) (at ws i) 0

-- the widths of the bands that are bid below k, added up
unfoldable pub below : List ℕ → List ℕ → ℕ → ℕ
below ws bs k = sum_to (length ws) (under ws bs k)

-- the bands of bid k: their widths, and 0 for every other row
unfoldable pub group_in : List ℕ → List ℕ → ℕ → List ℕ
group_in ws bs k = table (length ws) (equal ws bs k)

-- what the bands of bid k are called for together: what lower bids leave of the need, at most their widths
unfoldable pub due_in : ℕ → List ℕ → List ℕ → ℕ → ℕ
due_in need ws bs k = min (need - below ws bs k) (whole (group_in ws bs k))

-- what row i is called for: its share with the bands of the same bid, in proportion to their widths
unfoldable pub called_in : ℕ → List ℕ → List ℕ → ℕ → ℕ → ℕ
called_in need ws bs first i = share (due_in need ws bs (at bs i)) (group_in ws bs (at bs i)) first i

unfoldable pub tier_calls : ℕ → List ℕ → List ℕ → ℕ → List ℕ
tier_calls need ws bs first = table (length ws) (called_in need ws bs first)
