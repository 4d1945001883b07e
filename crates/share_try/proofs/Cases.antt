-- What the proof of `main` leans on: three weights may be split, and a result is read off its figure.
--     ready     three weights whose sum fits, and a first position among them
--     got       what stands at a position of a result, by the figure of the shares
use Prim.Native.Nat.{ℕ, ◌+◌, ◌^◌}
use mathlib.Core.Path.{◌≡◌, refl, ◌∙◌, ap}
use mathlib.Core.Bool.{true}
use mathlib.Core.List.{List, [], ◌∷◌}
use native.Mathlib.Omega.{arith}
use lib.Dec.{T, ltb, eqb, ltb→lt}
use lib.ListN.{get_or}
use borrow.Author.Tests.{eq-eqb}
use Rattle.columns.specs.Sum.{sum_to}
use Rattle.columns.specs.Sum.{whole}
use Rattle.share.specs.Share.{shares}
use Rattle.share.specs.Split.{Splittable}

pub ready : (a b c first : ℕ) → T (ltb (0 + a + b + c) (2 ^ 64)) → T (ltb first 3)
    → Splittable (a ∷ b ∷ c ∷ []) (a ∷ b ∷ c ∷ []) first
unfolding whole sum_to
ready a b c first f i =
    record { short = omega arith; room = refl; fits = ltb→lt (0 + a + b + c) (2 ^ 64) f; inside = λ _. ltb→lt first 3 i }

pub got : (a : ℕ) (ws : List ℕ) (first : ℕ) (r figure : List ℕ) (i x : ℕ) → r ≡ shares a ws first → shares a ws first ≡ figure
    → get_or figure i 0 ≡ x → eqb (get_or r i 0) x ≡ true
got a ws first r figure i x e f g = eq-eqb (get_or r i 0) x (ap (λ (l : List ℕ). get_or l i 0) (e ∙ f) ∙ g)
