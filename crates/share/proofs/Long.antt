-- Quota and remainder of a product that may pass 64 bits: what the proof of `divide_long` leans on. Each law has the shape of one fact
-- that the code asks for.
--     long-ready, long-again    the loop over the digits
--     quota-is, rest-is     there is one quota and one remainder
use Prim.Native.Nat.{ℕ, suc, ◌+◌, ◌-◌, ◌*◌, ◌/◌, ◌%◌, ◌^◌, ◌≤◌, ◌<◌}
use mathlib.Core.Path.{◌≡◌, ap, sym, ◌∙◌}
use native.Mathlib.Nat.{mul-le-mul, mul-lt-mul_of_pos_right, pow-suc}
use native.Mathlib.Nat.{div-le_self, div-eq_of_lt, div-div-eq-div-mul}
use native.Mathlib.Nat.{mul-add-div, mul-add-mod_self_left, mod-eq_of_lt}
use native.Mathlib.Omega.{arith}
use Rattle.share.specs.declared.Division.{Division}
use Rattle.share.specs.Steps.{Divided, Digits, Divisible}

sum-some : (w W : ℕ) → Divisible w W → 0 < W
sum-some w W c = omega (arith, c.some, c.most)

-- the amount without its last k digits, halved
halved : (a k : ℕ) → 0 < k → a / 2 ^ (k - 1) / 2 ≡ a / 2 ^ k
halved a k l =
    div-div-eq-div-mul a (2 ^ (k - 1)) 2
    ∙ (let e : k ≡ suc (k - 1) = omega arith in ap (λ (x : ℕ). a / x) (sym (pow-suc 2 (k - 1)) ∙ ap (λ (j : ℕ). 2 ^ j) (sym e)))

-- the digit that comes next, put to the digits before it
digits : (a k w : ℕ) → 0 < k → 2 * (a / 2 ^ k * w) + a / 2 ^ (k - 1) % 2 * w ≡ a / 2 ^ (k - 1) * w
digits a k w l = rw (← halved a k l) (last (a / 2 ^ (k - 1)))
  where
    last : (x : ℕ) → 2 * (x / 2 * w) + x % 2 * w ≡ x * w
    last x = let e : 2 * (x / 2) + x % 2 ≡ x = omega arith in omega (arith, ap (λ (y : ℕ). y * w) e)

pub long-ready : (a w W k : ℕ) (d : Division) → a < 2 ^ 64 → Divisible w W → 0 < k → Divided (a / 2 ^ k * w) W d
    → Digits d.quota d.rest (a / 2 ^ (k - 1) % 2) w W
long-ready a w W k d f c l h =
    record {
      less = h.less;
      most = c.most;
      two = omega arith;
      fits =
          within (2 ^ 64) h.is (digits a k w l) (mul-le-mul (div-le_self a (2 ^ (k - 1))) c.most)
          (mul-lt-mul_of_pos_right f (sum-some w W c));
    }
  where
    within : (m : ℕ) → W * d.quota + d.rest ≡ a / 2 ^ k * w → 2 * (a / 2 ^ k * w) + a / 2 ^ (k - 1) % 2 * w ≡ a / 2 ^ (k - 1) * w
        → a / 2 ^ (k - 1) * w ≤ a * W → a * W < m * W → 2 * (W * d.quota + d.rest) + a / 2 ^ (k - 1) % 2 * w < W * m
    within m h i j k = rw h (omega (arith, i, j, k))

pub long-again : (a w W k : ℕ) (d e : Division) → 0 < k → Divided (a / 2 ^ k * w) W d
    → Divided (2 * (W * d.quota + d.rest) + a / 2 ^ (k - 1) % 2 * w) W e → Divided (a / 2 ^ (k - 1) * w) W e
long-again a w W k d e l h g =
    record { is = g.is ∙ ap (λ (x : ℕ). 2 * x + a / 2 ^ (k - 1) % 2 * w) h.is ∙ digits a k w l; less = g.less }

-- there is one quota and one remainder
pub quota-is : (v W : ℕ) (d : Division) → Divided v W d → d.quota ≡ v / W
quota-is v W d h =
    rw (← h.is) (let e = mul-add-div {m = W} (omega (arith, h.less)) d.quota d.rest in omega (arith, e, div-eq_of_lt h.less))

pub rest-is : (v W : ℕ) (d : Division) → Divided v W d → d.rest ≡ v % W
rest-is v W d h = rw (← h.is) (sym (mul-add-mod_self_left W d.quota d.rest ∙ mod-eq_of_lt h.less))
