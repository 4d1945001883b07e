-- Little-endian numbers of any width: what is written is read again, and what is read is written again.
--   number-length   a number of width w is written in w bytes
--   number-bytes    each of them is below 256
--   number-drop     reading from a part of a list is reading further on in the list
--   number-front    a number that ends within the first of two joined lists is read from it alone
--   number-back     a number that begins after the first of two joined lists is read from the second alone
--   number_read     read after write: x below 256 ^ w, written between any bytes, is read as x
--   number_is       the same with no bytes around it
--   number-write    write after read: w bytes, read as a number, are written as the same w bytes
-- Each by one induction over the width.
use mathlib.Core.Path.{◌≡◌, refl, sym, ap, ◌∙◌}
use mathlib.Core.List.{List, [], ◌∷◌, ◌++◌, append-nil}
use Prim.Native.Nat.{ℕ, zero, suc, ◌+◌, ◌*◌, ◌/◌, ◌%◌, ◌^◌, ◌≤◌, ◌<◌}
use native.Mathlib.Nat.{add_assoc, add-zero, pow-zero, pow-suc}
use native.Mathlib.Numerals.{add-one}
use native.Mathlib.Omega.{arith}
use lib.ListN.{length, get_or, take, drop, get_or-append}
use lib.Seq.{get_or-drop, drop-cons, drop-append_seam}
use Rattle.records.specs.Number.{number_at, number_bytes}

pub number-length : (w x : ℕ) → length (number_bytes w x) ≡ w
unfolding number_bytes
number-length zero x = refl
number-length (suc w) x = ap suc (number-length w (x / 256))

pub number-bytes : (w x k : ℕ) → get_or (number_bytes w x) k 0 < 256
unfolding number_bytes
number-bytes zero x k = omega arith
number-bytes (suc w) x zero = omega arith
number-bytes (suc w) x (suc k) = number-bytes w (x / 256) k

pub number-drop : (w : ℕ) (s : List ℕ) (n k : ℕ) → number_at w (drop n s) k ≡ number_at w s (n + k)
unfolding number_at
number-drop zero s n k = refl
number-drop (suc w) s n k = rw (get_or-drop n s k 0, number-drop w s n (k + 1), add_assoc n k 1)

pub number-front : (w : ℕ) (a b : List ℕ) (k : ℕ) → k + w ≤ length a → number_at w (a ++ b) k ≡ number_at w a k
unfolding number_at
number-front zero a b k h = refl
number-front (suc w) a b k h =
    rw (get_or-append a b 0 k (omega arith), number-front w a b (k + 1) (omega arith))

pub number-back : (w : ℕ) (a b : List ℕ) (k : ℕ) → number_at w (a ++ b) (length a + k) ≡ number_at w b k
number-back w a b k =
    sym (number-drop w (a ++ b) (length a) k) ∙ ap (λ (s : List ℕ). number_at w s k) (drop-append_seam a b)

read_first : (w x : ℕ) (b : List ℕ) → x < 256 ^ w → number_at w (number_bytes w x ++ b) 0 ≡ x
unfolding number_at number_bytes
read_first zero x b h = omega (arith, pow-zero 256)
read_first (suc w) x b h =
    let rest = number_bytes w (x / 256) ++ b in
    let ih : number_at w rest 0 ≡ x / 256 = read_first w (x / 256) b (omega (arith, pow-suc 256 w)) in
    let on : number_at w rest 0 ≡ number_at w ((x % 256) ∷ rest) 1 = number-drop w ((x % 256) ∷ rest) 1 0 in
    omega arith

pub number_read : (w x : ℕ) (a b : List ℕ) → x < 256 ^ w → number_at w (a ++ (number_bytes w x ++ b)) (length a) ≡ x
number_read w x a b h =
    rw (← add-zero (length a), number-back w a (number_bytes w x ++ b) 0, read_first w x b h)

pub number_is : (w x : ℕ) → x < 256 ^ w → number_at w (number_bytes w x) 0 ≡ x
number_is w x h = ap (λ (s : List ℕ). number_at w s 0) (sym (append-nil (number_bytes w x))) ∙ read_first w x [] h

pub number-write : (w : ℕ) (s : List ℕ) (k : ℕ) → ((i : ℕ) → get_or s i 0 < 256) → k + w ≤ length s
    → number_bytes w (number_at w s k) ≡ take w (drop k s)
unfolding number_at number_bytes
number-write zero s k small h = refl
number-write (suc w) s k small h =
    let low : (get_or s k 0 + 256 * number_at w s (k + 1)) % 256 ≡ get_or s k 0 = omega (arith, small k) in
    let high : (get_or s k 0 + 256 * number_at w s (k + 1)) / 256 ≡ number_at w s (k + 1) = omega (arith, small k) in
    rw (low, high, drop-cons s k 0 (omega arith), number-write w s (k + 1) small (omega arith), add-one)
