-- Choices that the code makes by arithmetic, without a branch.
--   excess, excess-32, excess-64      what a has above b: of a number over 2 ^ 32 the rest times the quotient, which is 1 or 0
--   chosen, chosen-fits               two figures together, of which one does not count
use Prim.Native.Nat.{ℕ, ◌+◌, ◌-◌, ◌*◌, ◌/◌, ◌%◌, ◌≤◌, ◌<◌}
use mathlib.Core.Path.{◌≡◌}
use mathlib.Core.Logic.{⊎_elim}
use mathlib.Core.Bool.{Bool, true, false, cond, not}
use native.Mathlib.Omega.{arith}
use mir.Syntax.{w32, w64}
use mir.Val.{Fits}
use Rattle.columns.proofs.Sum.{lt-or-le}

module _ (a b : ℕ) (low : Fits w32 a) (small : Fits w32 b) where
  pub excess : (a + 4294967296 - b) % 4294967296 * ((a + 4294967296 - b) / 4294967296) ≡ a - b
  excess =
      ⊎_elim
      (λ (l : a < b). let q : (a + 4294967296 - b) / 4294967296 ≡ 0 = omega arith in rw q (omega arith))
      (λ (l : b ≤ a). let q : (a + 4294967296 - b) / 4294967296 ≡ 1 = omega arith in rw q (omega arith))
      (lt-or-le a b)

  pub excess-32 : Fits w32 ((a + 4294967296 - b) % 4294967296 * ((a + 4294967296 - b) / 4294967296))
  excess-32 = rw excess (omega arith)

  pub excess-64 : Fits w64 ((a + 4294967296 - b) % 4294967296 * ((a + 4294967296 - b) / 4294967296))
  excess-64 = rw excess (omega arith)

pub chosen : (t : Bool) (a b x y : ℕ) → x ≡ cond t a 0 → y ≡ cond (not t) b 0 → x + y ≡ cond t a b
chosen true a b x y e f = omega arith
chosen false a b x y e f = omega arith

pub chosen-fits : (t : Bool) (a b x y : ℕ) → x ≡ cond t a 0 → y ≡ cond (not t) b 0 → Fits w32 a → Fits w32 b → Fits w32 (x + y)
chosen-fits true a b x y e f low small = omega arith
chosen-fits false a b x y e f low small = omega arith
