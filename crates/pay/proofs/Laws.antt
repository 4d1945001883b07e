-- Laws of compensation and penalty, for whoever calls them.
--     tier-none             a row that was not called in a tier gets nothing there
--     tier-some             a row that was called gets its energy at the price
--     tier-most             a tier's product at an energy and a price of bounded size
--     compensation-most     at most 25,000,000 fen for 250,000 kWh in both tiers together at prices up to 1,000 li
--     not-called            a row that was called in neither tier gets nothing
--     no-energy             nor does a row that delivered in neither
--     tier-penalty-most     a tier's penalty at a call and a price of bounded size
--     penalty-most          at most 100,000,000 fen for 250,000 kWh called in each tier at prices up to 1,000 li
--     penalty-none          a row that delivered what it was called for in both tiers owes nothing
--     penalty-free          the same by the test that the code makes
--     li-to-fen             P11 of document 01: half a fen goes upward
--     compensation-unique, penalty-unique     two results that the contract allows are equal
use Prim.Native.Nat.{ℕ, ◌+◌, ◌-◌, ◌*◌, ◌≤◌, ◌<◌}
use mathlib.Core.Path.{◌≡◌, refl, ap, sym, ◌∙◌}
use mathlib.Core.Logic.{⊎_elim}
use mathlib.Core.List.{[], ◌∷◌}
use native.Mathlib.Nat.{le_refl, mul-le-mul, eq-zero-or-pos}
use native.Mathlib.Omega.{arith}
use mathlib.Core.Bool.{true, ◌&&◌}
use lib.Dec.{leb}
use borrow.Author.Tests.{lt-ltb, le-ltb, leb-true}
use Rattle.columns.proofs.First.{left-true, right-true}
use Rattle.units.specs.Measure.{to_fen}
use Rattle.columns.proofs.Unique.{OneResult}
use Rattle.pay.specs.Pay.{tier_pay, compensation, tier_penalty, penalty}
use Rattle.pay.proofs.compensation.Reads as reads
use Rattle.pay.proofs.penalty.Reads as penalty-reads

pub tier-none : (call energy price : ℕ) → call ≡ 0 → tier_pay call energy price ≡ 0
tier-none call energy price e = rw (le-ltb 0 call (omega arith))

pub tier-some : (call energy price : ℕ) → (call ≡ 0 → ⊥) → tier_pay call energy price ≡ energy * price
tier-some call energy price e = rw (lt-ltb 0 call (omega arith))

pub tier-most : (E P call energy price : ℕ) → energy ≤ E → price ≤ P → tier_pay call energy price ≤ E * P
tier-most E P call energy price h k =
    ⊎_elim (λ (z : call ≡ 0). omega (arith, tier-none call energy price z))
    (λ (p : 0 < call). omega (arith, tier-some call energy price (omega arith), mul-le-mul h k)) (eq-zero-or-pos call)

module _ (call1 call2 energy1 energy2 price1 price2 : ℕ) where
  pub compensation-most : energy1 + energy2 ≤ 250000 → price1 ≤ 1000 → price2 ≤ 1000
      → compensation call1 call2 energy1 energy2 price1 price2 ≤ 25000000
  compensation-most e p q =
      omega (
        arith,
        tier-most energy1 1000 call1 energy1 price1 (le_refl energy1) p,
        tier-most energy2 1000 call2 energy2 price2 (le_refl energy2) q,
      )

pub compensation-unique : OneResult reads.Learnt
compensation-unique κs a x y e f p q = ap (λ (m : ℕ). record { 0 = m }) (p ∙ sym q)

pub not-called : (energy1 energy2 price1 price2 : ℕ) → compensation 0 0 energy1 energy2 price1 price2 ≡ 0
not-called energy1 energy2 price1 price2 = refl

pub no-energy : (call1 call2 price1 price2 : ℕ) → compensation call1 call2 0 0 price1 price2 ≡ 0
no-energy call1 call2 price1 price2 =
    omega (
      arith,
      tier-most 0 price1 call1 0 price1 (le_refl 0) (le_refl price1),
      tier-most 0 price2 call2 0 price2 (le_refl 0) (le_refl price2),
    )

pub tier-penalty-most : (E P call delivered price : ℕ) → call ≤ E → price ≤ P → tier_penalty call delivered price ≤ 2 * (E * P)
tier-penalty-most E P call delivered price h k =
    let short : call - delivered ≤ E = omega arith in omega (arith, mul-le-mul short k)

module _ (call1 call2 delivered1 delivered2 price1 price2 : ℕ) where
  pub penalty-most : call1 ≤ 250000 → call2 ≤ 250000 → price1 ≤ 1000 → price2 ≤ 1000
      → penalty call1 call2 delivered1 delivered2 price1 price2 ≤ 100000000
  penalty-most c d p q =
      omega (
        arith,
        tier-penalty-most 250000 1000 call1 delivered1 price1 c p,
        tier-penalty-most 250000 1000 call2 delivered2 price2 d q,
      )

  pub penalty-none : call1 ≤ delivered1 → call2 ≤ delivered2 → penalty call1 call2 delivered1 delivered2 price1 price2 ≡ 0
  penalty-none c d =
      let none1 : call1 - delivered1 ≡ 0 = omega arith in
      let none2 : call2 - delivered2 ≡ 0 = omega arith in
      let free1 : (call1 - delivered1) * price1 ≡ 0 = rw none1 (omega arith) in
      let free2 : (call2 - delivered2) * price2 ≡ 0 = rw none2 (omega arith) in
      omega (arith, free1, free2)

  pub penalty-free : leb call1 delivered1 && leb call2 delivered2 ≡ true → 0 ≡ penalty call1 call2 delivered1 delivered2 price1 price2
  penalty-free e =
      sym (penalty-none (leb-true call1 delivered1 (left-true (leb call1 delivered1) (leb call2 delivered2) e))
      (leb-true call2 delivered2 (right-true (leb call1 delivered1) (leb call2 delivered2) e)))

pub penalty-unique : OneResult penalty-reads.Learnt
penalty-unique κs a x y e f p q = ap (λ (m : ℕ). record { 0 = m }) (p ∙ sym q)

pub li-to-fen : to_fen 315 ∷ to_fen 314 ∷ [] ≡ 32 ∷ 31 ∷ []
li-to-fen = refl
