-- A tier's clearing price (02, request 1, in the place of 01's price rule; Article 27): the last unit that delivered sets it.
use Rattle.std.specs.Prelude.{ℕ, Bool, ◌&&◌, List, ltb, length}
use Rattle.columns.specs.Sum.{max_where}
use Rattle.columns.specs.Table.{at}

-- a row delivers in a tier if it was called there for more than 0 and is paid for energy there
abbrev pub delivers : ℕ → ℕ → Bool
delivers call energy = ltb 0 call && ltb 0 energy

-- the highest bid among the rows that deliver, and 0 if none does
unfoldable pub price : List ℕ → List ℕ → List ℕ → ℕ
price bids calls energies = max_where (length bids) (λ i. delivers (at calls i) (at energies i)) (at bids)

-- 01's rule, which no longer holds: the highest bid among the rows called for more than 0. It stands here to be compared with.
unfoldable pub called_price : List ℕ → List ℕ → ℕ
called_price bids calls = max_where (length bids) (λ i. ltb 0 (at calls i)) (at bids)
