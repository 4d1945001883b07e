-- What each band is called for (01, Calls and prices; Article 26), without the order in which a walk finds it out.
use Rattle.std.specs.Prelude.{ℕ, ◌+◌, ◌-◌, min, cond, List, ltb, eqb}
use Rattle.columns.specs.Sum.{sum_to}
use Rattle.columns.specs.Table.{at, table}
use Rattle.columns.specs.Sum.{whole}
use Rattle.share.specs.Share.{share}
use Rattle.merit.specs.Band.{Tier, one, two, Bands, widths, rows, order_at}

-- the widths of a tier's bands that come before order k, added up
unfoldable pub cheaper_in : Bands → Tier → ℕ → ℕ
cheaper_in b t k = sum_to (rows b) (λ i. cond (ltb (order_at b t i) k) (at (widths b t) i) 0)

-- the same over both tiers
unfoldable pub cheaper : Bands → ℕ → ℕ
cheaper b k = cheaper_in b one k + cheaper_in b two k

-- the tier's bands of order k: their widths, and 0 for every other row
unfoldable pub group : Bands → Tier → ℕ → List ℕ
group b t k = table (rows b) (λ i. cond (eqb (order_at b t i) k) (at (widths b t) i) 0)

-- what the bands of order k are called for together: what cheaper bands leave of the need, at most their widths
unfoldable pub due : ℕ → Bands → Tier → ℕ → ℕ
due need b t k = min (need - cheaper b k) (whole (group b t k))

-- what row i is called for in a tier: its share with the bands of the same bid and tier, in proportion to their widths
unfoldable pub called : ℕ → Bands → ℕ → Tier → ℕ → ℕ
called need b first t i = share (due need b t (order_at b t i)) (group b t (order_at b t i)) first i

unfoldable pub calls : ℕ → Bands → ℕ → Tier → List ℕ
calls need b first t = table (rows b) (called need b first t)

-- need beyond all bands
unfoldable pub uncovered : ℕ → Bands → ℕ
uncovered need b = need - (whole (widths b one) + whole (widths b two))
