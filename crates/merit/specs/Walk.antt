-- What the steps of the walk come to, and those of the search for the price. No promise of a public function speaks of them.
use Rattle.std.specs.Prelude.{ℕ, zero, suc, ◌+◌, ◌≤◌, ◌<◌, ◌^◌, min, ◌≡◌, cond, List, [], ltb, length, filter, Option, MatchOption}
use Rattle.std.specs.List.{All, Contains}
use Rattle.columns.specs.Sum.{count_to, whole}
use Rattle.columns.specs.Table.{at, table}
use Rattle.share.specs.Share.{shares}
use Rattle.merit.specs.OneTier.{under, below}
use Rattle.merit.specs.Price.{delivers}
use Rattle.merit.specs.Ready.{Columns}

-- past every bid
abbrev pub past : ℕ
past = 65536

-- the bid at which the need is passed: lower bids do not pass it, and with this bid it is passed; `past` if all bands do not pass it
pub record Margin (need : ℕ) (ws bs : List ℕ) (k : ℕ) : Type 0 where
  pub reached : below ws bs k ≤ need
  pub inside : k ≤ past
  pub passed : k < past → need < below ws bs (k + 1)

-- the lower of two bids, of which the second counts only if it is above k
unfoldable pub sooner : ℕ → ℕ → ℕ → ℕ
sooner k best bid = cond (ltb k bid) (min best bid) best

-- the lowest bid above k among the first n rows, and `past` if there is none
unfoldable pub next_in : ℕ → List ℕ → ℕ → ℕ
next_in k bs zero = past
next_in k bs (suc n) = sooner k (next_in k bs n) (at bs n)

-- the bid at which the walk goes on: the same among all rows
unfoldable pub next_bid : ℕ → List ℕ → ℕ
next_bid k bs = next_in k bs (length bs)

-- the bids above k, row by row
abbrev pub above : ℕ → List ℕ → List ℕ
above k bs = filter (λ x. ltb k x) bs

-- the lowest bid above k, if there is one
abbrev pub Lowest : ℕ → List ℕ → Option ℕ → Type 0
Lowest k bs r = MatchOption r (above k bs ≡ []) (λ m. Contains (above k bs) m × All (λ x. m ≤ x) (above k bs))

-- the bands that are bid below k: their widths, and 0 for every other row
unfoldable pub cheap_in : List ℕ → List ℕ → ℕ → List ℕ
cheap_in ws bs k = table (length ws) (under ws bs k)

-- what of `left` each band of a group is called for
unfoldable pub parts_in : ℕ → List ℕ → ℕ → List ℕ
parts_in left g first = shares (min left (whole g)) g first

-- how many bands a group has: a row that has none at this bid stands in it with 0
unfoldable pub bands_in : List ℕ → ℕ
bands_in g = count_to (length g) (λ i. ltb 0 (at g i))

-- what a group comes to: the sum of its widths, and how many bands it has
pub record Counts (g : List ℕ) (sum bands : ℕ) : Type 0 where
  pub sum_is : sum ≡ whole g
  pub bands_are : bands ≡ bands_in g

-- what row i of a group of one band is called for
unfoldable pub alone : ℕ → List ℕ → ℕ → ℕ
alone left g i = cond (ltb 0 (at g i)) left 0

-- room for what the bands of one bid are called for, and a position inside
pub record Room (ws : List ℕ) (first : ℕ) (out : List ℕ) : Type 0 where
  pub room : length out ≡ length ws
  pub inside : 0 < length ws → first < length ws

-- columns at the start of the walk: the bands that are bid below k are called in full
pub record Begun (ws bs : List ℕ) (first k : ℕ) (cs : List ℕ) : Type 0 where
  pub columns : Columns ws bs
  pub inside : 0 < length ws → first < length ws
  pub is : cs ≡ cheap_in ws bs k

-- row i, whose part is at most what is left, and whose call has room for it
pub record Callable (left i : ℕ) (ps cs : List ℕ) : Type 0 where
  pub part_at : i < length ps
  pub call_at : i < length cs
  pub covered : at ps i ≤ left
  pub fits : at cs i + at ps i < 2 ^ 32

-- the bid of row i if the row delivers, and 0 if not
unfoldable pub delivered_bid : ℕ → List ℕ → List ℕ → List ℕ → ℕ
delivered_bid i bids calls energies = cond (delivers (at calls i) (at energies i)) (at bids i) 0
