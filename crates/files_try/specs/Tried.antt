-- An interval file of one thermal row that offers, with a capacity and a tier 1 bid to try (01, Checked figures); and one that states its
-- terms, with two bytes to change and a length (02, request 6).
use Rattle.std.specs.Prelude.{ℕ, ◌+◌, ◌/◌, ◌%◌, List, [], ◌∷◌, take, set}
use Rattle.files.specs.Order.{verdict_of}
use Rattle.files.specs.Verdict.{number_of}

-- tariff 1300, need 3,000; id 1, thermal, metered 9,000, minimum 0, tier 2 bid 400
abbrev pub tried : ℕ → ℕ → List ℕ
tried c b =
    80 ∷ 72 ∷ 0 ∷ 0 ∷ 0 ∷ 0 ∷ 0 ∷ 20 ∷ 5 ∷ 184 ∷ 11 ∷ 0 ∷ 0 ∷ 1 ∷ 0 ∷ 80 ∷ 82 ∷ 1 ∷ 0 ∷ 1 ∷ c % 256 ∷ c / 256 ∷ 40 ∷ 35 ∷ 0 ∷ 0
    ∷ 0 ∷ 1 ∷ 0 ∷ 0 ∷ 0 ∷ 0 ∷ b % 256 ∷ b / 256 ∷ 144 ∷ 1 ∷ []

-- the number that the file gets, without a correction
unfoldable pub answer_of : ℕ → ℕ → ℕ
answer_of c b = number_of (verdict_of (tried c b) [])

-- 100 MW, minimum 8,000, bids 200 and 400, by the limits 150, 330, 330, 760
abbrev pub stated : ℕ → List ℕ
stated percent =
    80 ∷ 71 ∷ 0 ∷ 0 ∷ 0 ∷ 0 ∷ 0 ∷ 20 ∷ 5 ∷ 184 ∷ 11 ∷ 0 ∷ 0 ∷ 1 ∷ 0
    ∷ percent ∷ 150 ∷ 0 ∷ 74 ∷ 1 ∷ 74 ∷ 1 ∷ 248 ∷ 2
    ∷ 80 ∷ 82 ∷ 1 ∷ 0 ∷ 1 ∷ 100 ∷ 0 ∷ 40 ∷ 35 ∷ 0 ∷ 0 ∷ 0 ∷ 1 ∷ 64 ∷ 31 ∷ 0 ∷ 0 ∷ 200 ∷ 0 ∷ 144 ∷ 1 ∷ []

unfoldable pub stated_answer : ℕ → ℕ → ℕ → ℕ → ℕ → ℕ
stated_answer percent k low high count =
    number_of (verdict_of (take count (set (set (stated percent) k low) (k + 1) high)) [])
