-- Reading little-endian numbers: how large they are, from which bytes they are made, one byte more in front.
--   number-next    one byte more in front of a number that was read from position k + 1 on
--   number_bound   a number of w bytes is below 256 ^ w
--   number_same    the same bytes make the same number, wherever they stand
--   number-of2, number-of4     the number of two bytes, of four, as `from_le_bytes` makes it
--   shift-bound    one byte more keeps below the next power of 256
--   room           below 256 ^ w with w at most 7, a byte more still fits 64 bits
use mathlib.Core.Path.{◌≡◌, refl}
use Prim.Native.Nat.{ℕ, zero, suc, ◌+◌, ◌-◌, ◌*◌, ◌^◌, ◌≤◌, ◌<◌}
use native.Mathlib.Nat.{pow-suc, pow-le-pow_right, add_assoc, add-zero}
use native.Mathlib.Omega.{arith}
use mathlib.Core.List.{List, [], ◌∷◌}
use mir.Syntax.{w16, w32}
use Rattle.std.specs.Int.{from_le_bytes}
use lib.Dec.{lit<}
use lib.ListN.{get_or}
use Rattle.records.specs.Number.{number_at}

pub number-next : (s : List ℕ) (at w i v : ℕ) → v ≡ number_at (w - i) s (at + i) → 0 < i → i ≤ w
    → v * 256 + get_or s (at + (i - 1)) 0 ≡ number_at (w - (i - 1)) s (at + (i - 1))
unfolding number_at
number-next s at w i v e pos le =
    let wide : w - (i - 1) ≡ suc (w - i) = omega arith in
    let here : at + (i - 1) + 1 ≡ at + i = omega arith in
    rw (wide, here) (omega arith)

pub shift-bound : (w v b : ℕ) → v < 256 ^ w → b < 256 → v * 256 + b < 256 ^ suc w
shift-bound w v b h k = rw pow-suc (omega arith)

pub number_bound : (w : ℕ) (s : List ℕ) (k : ℕ) → ((i : ℕ) → get_or s i 0 < 256) → number_at w s k < 256 ^ w
unfolding number_at
number_bound zero s k h = lit< tt
number_bound (suc w) s k h = rw pow-suc (omega (arith, h k, number_bound w s (k + 1) h))

pub number_same : (w : ℕ) (s t : List ℕ) (a b : ℕ) → ((i : ℕ) → i < w → get_or s (a + i) 0 ≡ get_or t (b + i) 0)
    → number_at w s a ≡ number_at w t b
unfolding number_at
number_same zero s t a b h = refl
number_same (suc w) s t a b h =
    let first : get_or s a 0 ≡ get_or t b 0 = rw (add-zero, add-zero) at (h 0 (omega arith)) in
    let later : number_at w s (a + 1) ≡ number_at w t (b + 1) = number_same w s t (a + 1) (b + 1) (λ i l. rw (add_assoc, add_assoc) (h (1 + i) (omega arith))) in
    rw (first, later)

pub room : (w v : ℕ) → v < 256 ^ w → w ≤ 7 → v < 2 ^ 56
room w v h l = omega (arith, pow-le-pow_right {n = 256} (lit< tt) l)

pub number-of2 : (s : List ℕ) (at n : ℕ) → n ≡ from_le_bytes w16 (get_or s at 0 ∷ get_or s (at + 1) 0 ∷ []) → n ≡ number_at 2 s at
unfolding number_at
number-of2 s at n e = omega (arith, e)

pub number-of4 : (s : List ℕ) (at n : ℕ)
    → n ≡ from_le_bytes w32 (get_or s at 0 ∷ get_or s (at + 1) 0 ∷ get_or s (at + 2) 0 ∷ get_or s (at + 3) 0 ∷ []) → n ≡ number_at 4 s at
unfolding number_at
number-of4 s at n e =
    let third : at + 1 + 1 ≡ at + 2 = omega arith in
    let fourth : at + 2 + 1 ≡ at + 3 = omega arith in
    rw (third, fourth) (omega (arith, e))

-- how far a reader has come: v is the number in the bytes from position at + i on, to the end of a width of w
pub record Read (s : List ℕ) (at w v i : ℕ) : Type 0 where
  pub inside : i ≤ w
  pub is : v ≡ number_at (w - i) s (at + i)
  pub bound : v < 256 ^ (w - i)

pub read_none : (s : List ℕ) (at w : ℕ) → Read s at w 0 w
unfolding number_at
read_none s at w =
    let none : w - w ≡ 0 = omega arith in
    record { inside = omega arith; is = rw none; bound = rw none (lit< tt) }

pub read-room : (s : List ℕ) (at w v i : ℕ) → Read s at w v i → 0 < i → w ≤ 8 → v < 2 ^ 56
read-room s at w v i r pos l = room (w - i) v r.bound (omega arith)

pub read_next : (s : List ℕ) (at w v i b : ℕ) → Read s at w v i → 0 < i → b ≡ get_or s (at + (i - 1)) 0 → b < 256
    → Read s at w (v * 256 + b) (i - 1)
read_next s at w v i b r pos e l =
    let more : w - (i - 1) ≡ suc (w - i) = omega arith in
    record {
      inside = omega (arith, r.inside);
      is = rw e (number-next s at w i v r.is pos r.inside);
      bound = rw more (shift-bound (w - i) v b r.bound l);
    }

pub read_all : (s : List ℕ) (at w v i : ℕ) → Read s at w v i → i ≤ 0 → (v ≡ number_at w s at) × (v < 256 ^ w)
read_all s at w v i r l =
    let whole : w - i ≡ w = omega arith in
    let here : at + i ≡ at = omega arith in
    (rw (whole, here) at r.is, rw whole at r.bound)
