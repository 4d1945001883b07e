-- The loop that counts visits by the closing rounds: what holds after i of the n positions, in the words of the columns that the code holds.
--     Told                    the loop's invariant
--     told_none, told-on      before the first position, one position more
--     told-fits               the sum fits
--     told-end                after the last one it is `visits_told`
use Prim.Native.Nat.{ℕ, ◌+◌, ◌^◌, ◌≤◌, ◌<◌}
use mathlib.Core.Path.{◌≡◌, refl, ap, ◌∙◌}
use mathlib.Core.Bool.{Bool, true, false, cond}
use mathlib.Core.List.{List}
use native.Mathlib.Omega.{arith}
use lib.Dec.{ltb, eqb}
use lib.ListN.{length}
use Rattle.columns.specs.Sum.{sum_to, sum_where}
use Rattle.columns.specs.Table.{at}
use Rattle.columns.proofs.Mask.{where_next, where-bound}
use Rattle.levy.specs.Rounds.{is_payer, looks, visits_told}
use Rattle.levy.specs.Asked.{Countable}

-- how often the payer at a position was looked at
abbrev looks_at : List ℕ → ℕ → ℕ → ℕ
looks_at marks rounds i = looks rounds (at marks i)

pub record Told (weights marks : List ℕ) (rounds visits i : ℕ) : Type 0 where
  pub is : visits ≡ sum_where i (is_payer weights) (looks_at marks rounds)

module _ (weights marks : List ℕ) (rounds : ℕ) where
  pub told_none : Told weights marks rounds 0 0
  told_none = record { is = unfold sum_where sum_to in refl }

  module _ (asked : Countable weights marks rounds) where
    looks-few : (i : ℕ) → looks_at marks rounds i ≤ 257
    unfolding looks
    looks-few i = each (eqb (at marks i) 0) (at marks i) (asked.marks_le i)
      where
        each : (t : Bool) (m : ℕ) → m ≤ rounds → cond t (rounds + 1) m ≤ 257
        each true m l = omega (arith, asked.early)
        each false m l = omega (arith, asked.early)

    module _ (visits i : ℕ) (told : Told weights marks rounds visits i) where
      module _ (l : i < length weights) (w m : ℕ) (w-is : w ≡ at weights i) (m-is : m ≡ at marks i)
          (v : ℕ) (is : v ≡ cond (ltb 0 w) (looks rounds m) 0) where
        next-is : visits + v ≡ sum_where (i + 1) (is_payer weights) (looks_at marks rounds)
        next-is = omega (arith, told.is, here, where_next i (is_payer weights) (looks_at marks rounds))
          where
            here : v ≡ cond (is_payer weights i) (looks_at marks rounds i) 0
            here = rw (← w-is, ← m-is) is

        pub told-fits : visits + v < 2 ^ 32
        told-fits =
            omega (
              arith,
              next-is,
              asked.few,
              where-bound (i + 1) 257 (is_payer weights) (looks_at marks rounds) (λ k _. looks-few k),
            )

        pub told-on : Told weights marks rounds (visits + v) (i + 1)
        told-on = record { is = next-is }

      pub told-end : i ≡ length weights → visits ≡ visits_told weights marks rounds
      unfolding visits_told
      told-end e = told.is ∙ ap (λ (m : ℕ). sum_where m (is_payer weights) (looks_at marks rounds)) e
