-- What a worked case shows: rounds, visits and shortfall on one line, payments on the next.
use Rattle.std.specs.Prelude.{ℕ, ◌≤◌, ◌<◌, ◌≡◌, List, [], ◌∷◌, replicate}
use Rattle.levy.specs.Rounds.{final, visits, payments, shortfall}
use Rattle.levy.specs.Asked.{Levyable}

-- columns that the rounds take, from marks that are all 0
pub record Case (total n : ℕ) (weights caps : List ℕ) : Type 0 where
  pub fit : Levyable n weights caps (replicate 256 0) total
  pub some : 0 < n

-- how many rounds, how many visits, and what nobody is left to pay
unfoldable pub outcome : ℕ → List ℕ → List ℕ → List ℕ
outcome total ws cs = (final total ws cs).rounds ∷ visits total ws cs ∷ shortfall (final total ws cs) ∷ []

unfoldable pub paid_in : ℕ → List ℕ → List ℕ → List ℕ
paid_in total ws cs = payments ws cs (final total ws cs) 0

-- interval X's weights; row 1 pays nothing, so its cap is 0 at every tariff
abbrev pub weights_x : List ℕ
weights_x = 0 ∷ 15000 ∷ 5000 ∷ []

abbrev pub caps_x : ℕ → ℕ → List ℕ
caps_x cap2 cap3 = 0 ∷ cap2 ∷ cap3 ∷ []

-- 01, P1 to P5: rounds, visits, shortfall and what rows 2 and 3 pay of 90,000 fen under these caps
pub record Worked (cap2 cap3 rounds visits shortfall paid2 paid3 : ℕ) : Type 0 where
  pub low2 : cap2 ≤ 44000000
  pub low3 : cap3 ≤ 44000000
  pub told : outcome 90000 weights_x (caps_x cap2 cap3) ≡ rounds ∷ visits ∷ shortfall ∷ []
  pub made : paid_in 90000 weights_x (caps_x cap2 cap3) ≡ 0 ∷ paid2 ∷ paid3 ∷ []
