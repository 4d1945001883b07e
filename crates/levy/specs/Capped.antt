-- Which payers are capped (01, Rounds; Article 31), said of any set of payers and without a word of rounds.
-- A set p answers yes or no at each position; only payers, positions of weight above 0, count.
use Rattle.std.specs.Prelude.{ℕ, ◌-◌, ◌*◌, ◌≤◌, ◌<◌, ◌≡◌, Bool, true, false, ◌&&◌, not, List, ltb, eqb, length}
use Rattle.columns.specs.Sum.{count_to, sum_where}
use Rattle.columns.specs.Table.{at}

-- position i has closed, by the marks: the set of those that the rounds close
abbrev pub has_closed : List ℕ → ℕ → Bool
has_closed marks i = not (eqb (at marks i) 0)

-- a payer in the set
abbrev pub inside : List ℕ → (ℕ → Bool) → ℕ → Bool
inside ws p i = ltb 0 (at ws i) && p i

-- a payer that is not in it
abbrev pub outside : List ℕ → (ℕ → Bool) → ℕ → Bool
outside ws p i = ltb 0 (at ws i) && not (p i)

-- how many payers the set has
unfoldable pub payers_inside : List ℕ → (ℕ → Bool) → ℕ
payers_inside ws p = count_to (length ws) (inside ws p)

-- the caps of the set together
unfoldable pub caps_inside : List ℕ → List ℕ → (ℕ → Bool) → ℕ
caps_inside ws cs p = sum_where (length ws) (inside ws p) (at cs)

-- what they leave of the total, for the others to pay
unfoldable pub left_by : ℕ → List ℕ → List ℕ → (ℕ → Bool) → ℕ
left_by total ws cs p = total - caps_inside ws cs p

-- the weights of the others together: left_by over this is the common rate
unfoldable pub weights_beside : List ℕ → (ℕ → Bool) → ℕ
weights_beside ws p = sum_where (length ws) (outside ws p) (at ws)

-- p is the set of the capped: at the common rate each other payer owes less than its cap and each of the set at least
-- its cap; and if the set has every payer, their caps are at most the total
pub record Capped (total : ℕ) (ws cs : List ℕ) (p : ℕ → Bool) : Type 0 where
  pub less : (i : ℕ) → outside ws p i ≡ true → left_by total ws cs p * at ws i < at cs i * weights_beside ws p
  pub enough : (i : ℕ) → inside ws p i ≡ true → at cs i * weights_beside ws p ≤ left_by total ws cs p * at ws i
  pub all : ((i : ℕ) → outside ws p i ≡ false) → caps_inside ws cs p ≤ total
