-- The sharing rule as it is told (01, Sharing a whole amount): the quotas first, then what is left, one after the other.
-- `one_by_one` gives what `shares` gives in one step: proofs/Process.antt.
use Rattle.std.specs.Prelude.{ℕ, zero, suc, ◌+◌, Bool, false, cond, not, ◌&&◌, ◌||◌, List, [], ◌∷◌, eqb, length, set}
use Rattle.columns.specs.Sum.{count_to, find_to}
use Rattle.columns.specs.Table.{at, table}
use Rattle.columns.specs.Sum.{whole}
use Rattle.share.specs.Share.{quota, before, left}

-- position i is in the list
unfoldable pub among : List ℕ → ℕ → Bool
among [] i = false
among (x ∷ xs) i = eqb x i || among xs i

-- who is next: a position not served yet, such that no other one not served yet stands before it
unfoldable pub next : ℕ → List ℕ → ℕ → List ℕ → ℕ
next a ws first served =
    find_to (length ws)
    (λ i. not (among served i) && eqb (count_to (length ws) (λ j. not (among served j) && before a ws first j i)) 0)

-- k more go out, each to whoever is next; xs is what everybody has, `served` who has had one more
unfoldable pub hand_out : ℕ → List ℕ → ℕ → ℕ → List ℕ → List ℕ → List ℕ
hand_out a ws first zero served xs = xs
hand_out a ws first (suc k) served xs =
    let i = next a ws first served in hand_out a ws first k (i ∷ served) (set xs i (at xs i + 1))

-- the quotas, then what they leave; 0 for everybody if no weight is above 0
unfoldable pub one_by_one : ℕ → List ℕ → ℕ → List ℕ
one_by_one a ws first =
    cond (eqb (whole ws) 0) (table (length ws) (λ i. 0))
    (hand_out a ws first (left a ws) [] (table (length ws) (quota a ws)))
