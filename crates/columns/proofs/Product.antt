-- When a product fits: two numbers with bounds whose product is below a limit.
--   product   a ≤ A, b ≤ B and A * B < m give a * b < m; the last is a computed test at numerals
use Prim.Native.Nat.{ℕ, ◌*◌, ◌≤◌, ◌<◌}
use native.Mathlib.Nat.{mul-le-mul, lt_of_le_of_lt}
use lib.Dec.{T, ltb, ltb→lt}

pub product : (A B m : ℕ) {a b : ℕ} → a ≤ A → b ≤ B → T (ltb (A * B) m) → a * b < m
product A B m h k t = lt_of_le_of_lt (mul-le-mul h k) (ltb→lt (A * B) m t)
