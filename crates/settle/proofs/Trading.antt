-- Both tiers one after the other, as the loop's proof asks for it.
--   Sofar            how far the loop has come before a tier
--   fields-are       the fields of the tiers in the order of the code
--   sofar-none, sofar-asked, sofar-more, sofar-all     its start, what the tier asks, one tier more, its end
use Prim.Native.Nat.{ℕ, zero, suc, ◌+◌, ◌≤◌, ◌<◌}
use mathlib.Core.Path.{◌≡◌, refl}
use mathlib.Core.List.{List, [], ◌∷◌}
use native.Mathlib.Omega.{arith}
use lib.ListN.{get_or}
use Rattle.units.specs.declared.Kwh.{Kwh}
use Rattle.units.specs.declared.Li.{Li}
use Rattle.settle.specs.Work.{Offered, Called, tier_one, tier_fields, fields_of, Tradable, Traded}
use Rattle.settle.specs.declared.market.Cleared.{Cleared}
use Rattle.settle.specs.declared.market.Tier.{Tier}
use Rattle.settle.specs.declared.market.Tier.TheVariants.{One, Two}
use Rattle.settle.specs.declared.market.TierFields.{TierFields}

pub fields-are : (p : TierFields) (tier : ℕ) (other : Tier) → tier < 2 → p ≡ tier_fields (get_or (One ∷ Two ∷ []) tier other) → p ≡ fields_of tier
fields-are p zero other l e = e
fields-are p (suc zero) other l e = e
fields-are p (suc (suc tier)) other l e = absurd (omega arith)

-- before tier 1, before tier 2, after both
unfoldable pub Sofar : ℕ → ℕ → ℕ → List ℕ → ℕ → List ℕ → Kwh → Li → Li → Type 0
Sofar need first n s₀ zero s left before price = (s ≡ s₀) × (left.0 ≡ need)
Sofar need first n s₀ (suc zero) s left before price =
    (r : Cleared) × Called need first n tier_one s₀ s r × (left ≡ r.left) × (price ≡ r.price)
Sofar need first n s₀ (suc (suc tier)) s left before price =
    Traded need first n s₀ s (record { uncovered = left; price1 = before; price2 = price })

module _ (need : Kwh) (first n : ℕ) (s₀ : List ℕ) where
  pub sofar-none : (before price : Li) → Sofar need.0 first n s₀ 0 s₀ need before price
  unfolding Sofar
  sofar-none before price = (refl, refl)

  module _ (asked : Tradable need.0 first n s₀) where
    asked-at : (tier : ℕ) (s : List ℕ) (left : Kwh) (before price : Li) → tier < 2 → Sofar need.0 first n s₀ tier s left before price
        → Offered n first (fields_of tier) s
    unfolding Sofar
    asked-at zero s left before price l so = rw so.0 asked.one
    asked-at (suc zero) s left before price l so = asked.two s so.0 so.1
    asked-at (suc (suc tier)) s left before price l so = absurd (omega arith)

    pub sofar-asked : (tier : ℕ) (s : List ℕ) (left : Kwh) (before price : Li) → tier < 2 → Sofar need.0 first n s₀ tier s left before price
        → (p : TierFields) → p ≡ fields_of tier → Offered n first p s
    sofar-asked tier s left before price l so p e = rw e (asked-at tier s left before price l so)

  more-at : (tier : ℕ) (s : List ℕ) (left : Kwh) (before price : Li) → tier < 2 → Sofar need.0 first n s₀ tier s left before price
      → (t : List ℕ) (r : Cleared) → Called left.0 first n (fields_of tier) s t r
      → Sofar need.0 first n s₀ (tier + 1) t r.left price r.price
  unfolding Sofar
  more-at zero s left before price l so t r now = (r, rw (so.0, so.1) at now, refl, refl)
  more-at (suc zero) s left before price l so t r now =
      record {
        between = s;
        one = so.0;
        two = r;
        called1 = so.1;
        called2 = rw so.2 at now;
        uncovered = refl;
        price1 = so.3;
        price2 = refl;
      }
  more-at (suc (suc tier)) s left before price l so t r now = absurd (omega arith)

  pub sofar-more : (tier : ℕ) (s : List ℕ) (left : Kwh) (before price : Li) → tier < 2 → Sofar need.0 first n s₀ tier s left before price
      → (p : TierFields) → p ≡ fields_of tier → (t : List ℕ) (r : Cleared) → Called left.0 first n p s t r
      → Sofar need.0 first n s₀ (tier + 1) t r.left price r.price
  sofar-more tier s left before price l so p e t r now = more-at tier s left before price l so t r (rw e at now)

  pub sofar-all : (tier : ℕ) (s : List ℕ) (left : Kwh) (before price : Li) → 2 ≤ tier → Sofar need.0 first n s₀ tier s left before price
      → Traded need.0 first n s₀ s (record { uncovered = left; price1 = before; price2 = price })
  unfolding Sofar
  sofar-all zero s left before price l so = absurd (omega arith)
  sofar-all (suc zero) s left before price l so = absurd (omega arith)
  sofar-all (suc (suc tier)) s left before price l so = so
