-- A list of positions: those that pass a test, so that a loop goes over them alone.
use Rattle.std.specs.Prelude.{ℕ, zero, suc, ◌≡◌, Bool, true, List, Some, length, set, slice_get}
use Rattle.columns.specs.Sum.{count_to}
use Rattle.columns.specs.Table.{at, Below}

-- an array begins with the positions below n that pass a test, m of them in order: each stands at the place that is the number of
-- those before it
pub record Lists (n : ℕ) (test : ℕ → Bool) (list : List ℕ) (m : ℕ) : Type 0 where
  pub long : length list ≡ 256
  pub many : m ≡ count_to n test
  pub places : Below n (λ i. test i ≡ true → at list (count_to i test) ≡ i)

-- what an array holds once the positions below i have been looked at: each was put behind those before it that pass, and stays there if it
-- passes itself
unfoldable pub listing : (ℕ → Bool) → List ℕ → ℕ → List ℕ
listing test list zero = list
listing test list (suc i) = set (listing test list i) (count_to i test) i

-- `answers x b` is that a test of rows may say b of row x: at each row of the column it says what `test` says of its position
abbrev pub Tells : {T : Type 0} → List T → (T → Bool → Type 0) → (ℕ → Bool) → Type 0
Tells {T} rows answers test = (i : ℕ) (x : T) (b : Bool) → slice_get rows i ≡ Some x → answers x b → b ≡ test i
