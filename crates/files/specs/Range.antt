-- Every range of a head and of a row (01, The files: Ranges; Article 25 for the limits of bids).
use Rattle.std.specs.Prelude.{ℕ, Bool, ◌&&◌, ◌||◌, List, [], ◌∷◌, leb, ltb, eqb}
use Rattle.columns.specs.Test.{within, all_of}
use Rattle.units.specs.Load.{most}
use Rattle.files.specs.Terms.{baseline}
use Rattle.files.specs.declared.Head.{Head}
use Rattle.files.specs.declared.Row.{Row}
use Rattle.files.specs.declared.CorrectionHead.{CorrectionHead}
use Rattle.files.specs.declared.Terms.{Terms}

-- a day from 2000-01-01 and a quarter of it
abbrev pub day_ok : ℕ → Bool
day_ok d = leb d 36524

abbrev pub quarter_ok : ℕ → Bool
quarter_ok q = leb q 95

-- the tests that an interval head's fields have to pass
unfoldable pub head_tests : Head → List Bool
head_tests h =
    day_ok h.day ∷ quarter_ok h.quarter ∷ within 1 10000 h.tariff.0 ∷ leb h.need.0 64000000 ∷ leb h.rows 256 ∷ []

-- every field of an interval head is in its range
unfoldable pub head_ok : Head → Bool
head_ok h = all_of (head_tests h)

-- the same for a correction head
unfoldable pub correction_tests : CorrectionHead → List Bool
correction_tests h = day_ok h.day ∷ quarter_ok h.quarter ∷ within 1 256 h.rows ∷ []

unfoldable pub correction_head_ok : CorrectionHead → Bool
correction_head_ok h = all_of (correction_tests h)

-- the tests that terms have to pass (02, request 6): a baseline of 41 to 50 percent, limits that rise from 1 to at most 1,000; tier 1 may
-- end where tier 2 begins
unfoldable pub terms_tests : Terms → List Bool
terms_tests t =
    within 41 50 t.percent ∷ leb 1 t.lowest1.0 ∷ ltb t.lowest1.0 t.highest1.0
    ∷ leb t.highest1.0 t.lowest2.0 ∷ ltb t.lowest2.0 t.highest2.0 ∷ leb t.highest2.0 1000 ∷ []

unfoldable pub terms_ok : Terms → Bool
terms_ok t = all_of (terms_tests t)

-- status: 0 to 3 for thermal, 0 or 3 otherwise
unfoldable pub status_ok : Row → Bool
status_ok r = leb r.status 3 && (eqb r.kind 1 || (eqb r.status 0 || eqb r.status 3))

-- a row that offers nothing states no minimum and no bid
unfoldable pub idle_tests : Row → List Bool
idle_tests r = eqb r.offered 0 ∷ eqb r.minimum.0 0 ∷ eqb r.bid1.0 0 ∷ eqb r.bid2.0 0 ∷ []

unfoldable pub not_offering : Row → Bool
not_offering r = all_of (idle_tests r)

-- a row that offers is thermal, with a minimum of at most the baseline and bids within the limits of its terms
unfoldable pub offer_tests : Terms → Row → List Bool
offer_tests t r =
    eqb r.offered 1 ∷ eqb r.kind 1 ∷ leb r.minimum.0 (baseline t r.capacity)
    ∷ within t.lowest1.0 t.highest1.0 r.bid1.0 ∷ within t.lowest2.0 t.highest2.0 r.bid2.0 ∷ []

unfoldable pub offering : Terms → Row → Bool
offering t r = all_of (offer_tests t r)

-- the tests that a row's fields have to pass under its terms
unfoldable pub row_tests : Terms → Row → List Bool
row_tests t r =
    leb 1 r.id ∷ within 1 3 r.kind ∷ within 1 2000 r.capacity ∷ leb r.metered.0 (most r.capacity)
    ∷ status_ok r ∷ (not_offering r || offering t r) ∷ []

-- every field of a row is in its range
unfoldable pub row_ok : Terms → Row → Bool
row_ok t r = all_of (row_tests t r)
