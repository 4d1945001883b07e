-- What `call_tier` asks of its columns, and what it leaves in them; what it leaves of both tiers, one after the other; what `price` asks.
use Rattle.std.specs.Prelude.{ℕ, ◌-◌, ◌≤◌, ◌<◌, ◌≡◌, List, length}
use Rattle.columns.specs.Sum.{whole}
use Rattle.columns.specs.Table.{at}
use Rattle.merit.specs.Band.{one, two, Bands}
use Rattle.merit.specs.Call.{calls, uncovered}
use Rattle.merit.specs.OneTier.{tier_calls}

-- one tier's columns: of one length, short and small enough that no sum wraps
pub record Columns (ws bs : List ℕ) : Type 0 where
  pub few : length ws ≤ 256
  pub long : length bs ≡ length ws
  pub narrow : (i : ℕ) → at ws i ≤ 250000
  pub low : (i : ℕ) → at bs i < 65536

-- what `call_tier` asks of its caller: a position inside, room for the calls, and nobody called yet
pub record Ready (ws bs : List ℕ) (first : ℕ) (cs : List ℕ) : Type 0 where
  pub columns : Columns ws bs
  pub inside : 0 < length ws → first < length ws
  pub room : length cs ≡ length ws
  pub blank : (i : ℕ) → at cs i ≡ 0

-- what it leaves: the tier's calls, and the need beyond all its bands
pub record TierCalled (need : ℕ) (ws bs : List ℕ) (first r : ℕ) (cs : List ℕ) : Type 0 where
  pub called : cs ≡ tier_calls need ws bs first
  pub beyond : r ≡ need - whole ws

-- both tiers' calls, and the need beyond all bands
pub record Called (need : ℕ) (b : Bands) (first r : ℕ) (c1 c2 : List ℕ) : Type 0 where
  pub called1 : c1 ≡ calls need b first one
  pub called2 : c2 ≡ calls need b first two
  pub beyond : r ≡ uncovered need b

-- a call and an energy for each bid
pub record OneLength (bids calls energies : List ℕ) : Type 0 where
  pub calls_long : length calls ≡ length bids
  pub energies_long : length energies ≡ length bids
