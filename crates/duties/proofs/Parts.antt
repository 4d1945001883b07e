-- A row's figures as the code makes them, each lemma in the shape of what is asked.
--     pays-is                  who pays, by tests that are joined and not one after the other
--     steps, low-base          a thermal unit's energy by what of it lies above its baseline, 60 and 70 percent; a baseline below 60
--     weight-of, cap-of        by the energy that counts, which is 0 of a row that does not pay
--     counted-le, twice-fits   that energy is at most the meter's, and twice that fits
--     duty-of                  all figures together
use Prim.Native.Nat.{ℕ, ◌+◌, ◌-◌, ◌*◌, ◌^◌, ◌≤◌, min}
use mathlib.Core.Path.{◌≡◌, refl}
use mathlib.Core.Bool.{Bool, true, false, cond, not, ◌&&◌, ◌||◌}
use native.Mathlib.Nat.{mul-le-mul}
use native.Mathlib.Omega.{arith}
use lib.Dec.{leb, eqb}
use mir.Syntax.{w32}
use mir.Val.{Fits}
use Rattle.units.specs.Measure.{thermal_cap, renewable_cap}
use Rattle.units.specs.Load.{load}
use Rattle.units.specs.declared.Kwh.{Kwh}
use Rattle.units.specs.declared.Fen.{Fen}
use Rattle.files.specs.declared.Row.{Row}
use Rattle.duties.specs.Duty.{width1, width2, energy1, energy2, credit1, credit2, payer, thermal_weight, weight, cap, duty_of}
use Rattle.duties.specs.declared.Duty.{Duty}
use Rattle.duties.specs.declared.weighing.Corrected.{Corrected}
use Rattle.duties.specs.Ranged.{Ranged}

-- two tests, of which k says the one that counts
joined : (k a b : Bool) → (k && a) || (not k && b) ≡ cond k a b
joined true true b = refl
joined true false b = refl
joined false a b = refl

pub pays-is : (base : ℕ) (r : Row)
    → (eqb r.kind 1 && (leb base r.metered.0 && not (eqb r.status 3))) || (not (eqb r.kind 1) && eqb r.status 0)
    ≡ payer base r
unfolding payer
pays-is base r = joined (eqb r.kind 1) _ _

-- no energy weighs nothing
weighed : (p k : Bool) (base c m : ℕ)
    → cond k (thermal_weight base c (cond p m 0)) (cond p m 0) ≡ cond p (cond k (thermal_weight base c m) m) 0
weighed true k base c m = refl
weighed false true base c m = omega arith
weighed false false base c m = refl

-- and has cap 0; twice the energy at a unit's share of the tariff is the energy at a farm's
capped : (p k : Bool) (tariff m : ℕ)
    → thermal_cap (cond p m 0 + cond (not k) (cond p m 0) 0) tariff ≡ cond p (cond k (thermal_cap m tariff) (renewable_cap m tariff)) 0
capped true true tariff m = omega arith
capped true false tariff m = omega arith
capped false true tariff m = omega arith
capped false false tariff m = omega arith

-- what lies above a load lies between it and a higher one, or above that
parted : (e a b : ℕ) → a ≤ b → e - a ≡ min e b - a + (e - b)
parted e a b l = omega arith

thrice : (x y z p q : ℕ) → x ≡ p + y → y ≡ q + z → x + y + z ≡ p + 2 * q + 3 * z
thrice x y z p q e f = omega arith

pub steps : (base c e low high one two three : ℕ) → base ≤ load c 60 → low ≡ load c 60 → high ≡ load c 70 → one ≡ e - base → two ≡ e - low
    → three ≡ e - high → one + two + three ≡ thermal_weight base c e
steps base c e low high one two three b l h f g i =
    let rising : low ≤ high = omega (arith, l, h) in
    let under : base ≤ low = omega (arith, l) in
    rw (f, g, i, ← l, ← h)
    (thrice (e - base) (e - low) (e - high) (min e low - base) (min e high - low) (parted e base low under) (parted e low high rising))

-- a baseline of up to 60 percent, of this capacity or a smaller one
pub low-base : (c d percent base : ℕ) → d ≤ c → percent ≤ 60 → base ≡ load d percent → base ≤ load c 60
low-base c d percent base h l is = let wide : d * 250 ≤ c * 250 = omega arith in omega (arith, is, mul-le-mul wide l)

module _ (base : ℕ) (r : Row) (e : ℕ) (is : e ≡ cond (payer base r) r.metered.0 0) where
  pub weight-of : (w x : ℕ) → w ≡ thermal_weight base r.capacity e → x ≡ cond (eqb r.kind 1) w e → x ≡ weight base r
  unfolding weight
  weight-of w x h p = rw (p, h, is) (weighed (payer base r) (eqb r.kind 1) base r.capacity r.metered.0)

  pub cap-of : (tariff farm x : ℕ) → farm ≡ cond (not (eqb r.kind 1)) e 0 → x ≡ thermal_cap (e + farm) tariff → x ≡ cap base tariff r
  unfolding cap
  cap-of tariff farm x f h = rw (h, f, is) (capped (payer base r) (eqb r.kind 1) tariff r.metered.0)

  pub counted-le : (m : ℕ) → r.metered.0 ≤ m → e ≤ m
  counted-le m h = rw is (go (payer base r))
    where
      go : (b : Bool) → cond b r.metered.0 0 ≤ m
      go true = h
      go false = omega arith

  pub twice-fits : (k : Bool) (farm : ℕ) → farm ≡ cond k e 0 → Ranged r → Fits w32 (e + farm)
  twice-fits k farm f h = rw f (go k)
    where
      go : (b : Bool) → Fits w32 (e + cond b e 0)
      go true = omega (arith, counted-le (2 ^ 30) h.metered)
      go false = omega (arith, counted-le (2 ^ 30) h.metered)

pub duty-of : (limit base tariff : ℕ) (r : Row) (w1 w2 e1 e2 x1 x2 : Kwh) (w : Corrected) (c : Fen) → w1.0 ≡ width1 limit r → w2.0 ≡ width2 r
    → e1.0 ≡ energy1 base r → e2.0 ≡ energy2 base r → x1.0 ≡ credit1 limit base r → x2.0 ≡ credit2 base r → w.0 ≡ weight base r
    → c.0 ≡ cap base tariff r
    → ◌≡◌ {A = Duty}
    (record {
      width1 = w1;
      width2 = w2;
      energy1 = e1;
      energy2 = e2;
      credit1 = x1;
      credit2 = x2;
      weight = w;
      cap = c;
      bid1 = r.bid1;
      bid2 = r.bid2;
    })
    (duty_of limit base tariff r)
unfolding duty_of
duty-of limit base tariff r w1 w2 e1 e2 x1 x2 w c h1 h2 h3 h4 h5 h6 h7 h8 = rw (← h1, ← h2, ← h3, ← h4, ← h5, ← h6, ← h7, ← h8)
