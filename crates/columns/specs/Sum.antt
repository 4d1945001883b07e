-- Sums, counts, maxima and searches over positions: f 0, f 1, .., f (n - 1), taken from the front, as a loop does.
use Rattle.std.specs.Prelude.{ℕ, zero, suc, ◌+◌, max, Bool, true, false, cond, List, ltb, length}
use Rattle.columns.specs.Table.{at}

-- a test as a number: 1 where it passes
abbrev pub bit : Bool → ℕ
bit true = 1
bit false = 0

-- the sum of f below n
unfoldable pub sum_to : ℕ → (ℕ → ℕ) → ℕ
sum_to zero f = 0
sum_to (suc n) f = sum_to n f + f n

-- the sum of a column
unfoldable pub whole : List ℕ → ℕ
whole xs = sum_to (length xs) (at xs)

-- how many positions below n pass the test
unfoldable pub count_to : ℕ → (ℕ → Bool) → ℕ
count_to n p = sum_to n (λ k. bit (p k))

-- the sum of f over the positions below n that pass the test
unfoldable pub sum_where : ℕ → (ℕ → Bool) → (ℕ → ℕ) → ℕ
sum_where n p f = sum_to n (λ k. cond (p k) (f k) 0)

-- the largest value of f below n, and 0 if there is none
unfoldable pub max_to : ℕ → (ℕ → ℕ) → ℕ
max_to zero f = 0
max_to (suc n) f = max (max_to n f) (f n)

-- the largest value of f over the positions below n that pass the test, and 0 if none does
unfoldable pub max_where : ℕ → (ℕ → Bool) → (ℕ → ℕ) → ℕ
max_where n p f = max_to n (λ k. cond (p k) (f k) 0)

-- the first position below n that passes the test, and n if none does
unfoldable pub find_to : ℕ → (ℕ → Bool) → ℕ
find_to zero p = 0
find_to (suc n) p = cond (ltb (find_to n p) n) (find_to n p) (cond (p n) n (suc n))
