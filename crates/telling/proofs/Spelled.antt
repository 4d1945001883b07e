-- Numbers and fields as text in a buffer.
--   spelled          the fewest digits that hold a number are its decimal text
--   few-digits       a number of eight bytes has at most twenty
--   number-placed    the digits, then what stands after them: `tell_number`
--   no_fields, fields-more, fields-all   the start, a turn and the end of `tell_fields`
use mathlib.Core.Path.{◌≡◌, sym, ap, ◌∙◌}
use mathlib.Core.Logic.{⊎_elim}
use mathlib.Core.List.{List, [], ◌∷◌, ◌++◌}
use Prim.Native.Nat.{ℕ, zero, suc, ◌+◌, ◌-◌, ◌*◌, ◌/◌, ◌%◌, ◌^◌, ◌≤◌, ◌<◌}
use native.Mathlib.Nat.{pow-succ', pow-zero, one-le-pow, pow-le-pow_right}
use native.Mathlib.Numerals.{add-one}
use native.Mathlib.Omega.{arith}
use lib.Dec.{lit<}
use lib.ListN.{length, get_or, take, set, length-append}
use borrow.Author.Tests.{lt-ltb, le-ltb}
use Rattle.records.specs.Buffer.{put}
use Rattle.records.proofs.Buffer.{put-length, put-put, set-put}
use Rattle.columns.proofs.Sum.{lt-or-le}
use Rattle.io.specs.Digits.{last_digits, hex_digit_ascii, IsDigitCount}
use Rattle.telling.specs.Text.{decimal_in, decimal, end_of, text_to, line_text, Placed, number_most, line_most}
use Rattle.telling.proofs.Texts.{placed-none, placed-after}

-- a decimal digit's glyph
digit : (x : ℕ) → hex_digit_ascii (x % 10) ≡ 48 + x % 10
digit x = rw (lt-ltb (x % 10) 10 (omega arith))

le_pred : (k y : ℕ) → 10 ^ k ≤ y → 10 ^ (suc k - 1) ≤ y
le_pred k y h = let e : suc k - 1 ≡ k = omega arith in rw e h

spelled-in : (k more x : ℕ) → k ≤ more → IsDigitCount 10 1 x (suc k) → last_digits 10 (suc k) x ≡ decimal_in more x
unfolding decimal_in
spelled-in zero zero x h f = rw (digit x)
spelled-in zero (suc more) x h f =
    let small : x < 10 = omega (arith, f.1, pow-succ' 10 0, pow-zero 10) in
    rw (digit x, lt-ltb x 10 small)
spelled-in (suc k) zero x h f = absurd (omega arith)
spelled-in (suc k) (suc more) x h f =
    let e : suc (suc k) - 1 ≡ suc k = omega arith in
    let least : 10 ^ suc k ≤ x = rw e at (f.2 (omega arith)) in
    let large : 10 ≤ x = omega (arith, least, pow-succ' 10 k, one-le-pow k 10 (lit< tt)) in
    let rest : last_digits 10 (suc k) (x / 10) ≡ decimal_in more (x / 10) =
    spelled-in k more (x / 10) (omega arith)
    (omega arith, omega (arith, f.1, pow-succ' 10 (suc k)), λ l. le_pred k (x / 10) (omega (arith, least, pow-succ' 10 k))) in
    rw (digit x, le-ltb x 10 large, rest)

-- a number of eight bytes has at most twenty digits
pub few-digits : (x k : ℕ) → x < 2 ^ 64 → IsDigitCount 10 1 x k → k ≤ 20
few-digits x k h f =
    ⊎_elim
    (λ (l : 20 < k).
    let least : 10 ^ (k - 1) ≤ x = f.2 (omega arith) in
    let large : 10 ^ 20 ≤ 10 ^ (k - 1) = pow-le-pow_right (lit< tt) {i = 20} {j = k - 1} (omega arith) in
    absurd (omega arith))
    (λ (m : k ≤ 20). m)
    (lt-or-le 20 k)

pub spelled : (k x : ℕ) → k ≤ 20 → IsDigitCount 10 1 x k → last_digits 10 k x ≡ decimal x
spelled zero x h f = absurd (omega (arith, f.0))
spelled (suc k) x h f = spelled-in k 19 x (omega arith) f

-- a number's digits, and then one byte more
pub number-placed : (l ds : List ℕ) (at k x e : ℕ) → at + number_most ≤ length l → k ≤ 20 → k ≡ length (take k ds) → IsDigitCount 10 1 x k
    → take k ds ≡ last_digits 10 k x
    → Placed l (set (put l at (take k ds)) (at + k) e) at (decimal x ++ (e ∷ [])) (at + k + 1) number_most
number-placed l ds at k x e room h n f d =
    let w : take k ds ≡ decimal x = d ∙ spelled k x h f in
    let c : length (decimal x) ≡ k = sym (ap length w) ∙ sym n in
    let keeps : length (put l at (take k ds)) ≡ length l = put-length l at (take k ds) (omega arith) in
    let both : length (decimal x ++ (e ∷ [])) ≡ k + 1 = length-append (decimal x) (e ∷ []) ∙ omega arith in
    record {
      bytes =
          set-put (put l at (take k ds)) (at + k) e (omega arith)
          ∙ put-put l at (at + k) (take k ds) (e ∷ []) (omega arith) (omega arith)
          ∙ ap (λ (t : List ℕ). put l at (t ++ (e ∷ []))) w;
      end_is = omega arith;
      fits = omega arith;
    }

-- no field yet; one field more
pub no_fields : (l fields : List ℕ) (from : ℕ) → Placed l l from (text_to 0 fields) from 0
unfolding text_to
no_fields l fields from = placed-none l from

pub text-next : (i : ℕ) (fields : List ℕ) → text_to (i + 1) fields ≡ text_to i fields ++ (decimal (get_or fields i 0) ++ (end_of (length fields) i ∷ []))
unfolding text_to
text-next i fields = rw add-one

pub fields-more : (l l' l'' fields : List ℕ) (from at i end e : ℕ) → i < length fields → length fields ≤ 16 → from + line_most ≤ length l
    → Placed l l' from (text_to i fields) at (i * number_most) → e ≡ end_of (length fields) i
    → Placed l' l'' at (decimal (get_or fields i 0) ++ (e ∷ [])) end number_most
    → Placed l l'' from (text_to (i + 1) fields) end ((i + 1) * number_most)
fields-more l l' l'' fields from at i end e inside few room p q r =
    let new : List ℕ = decimal (get_or fields i 0) ++ (end_of (length fields) i ∷ []) in
    rw (text-next i fields)
    (placed-after l l' l'' (text_to i fields) new from at end (i * number_most) number_most ((i + 1) * number_most) (omega arith) (omega arith) p (rw q at r))

pub fields-all : (l l' fields : List ℕ) (from at i : ℕ) → i ≤ length fields → length fields ≤ i → length fields ≤ 16
    → Placed l l' from (text_to i fields) at (i * number_most) → Placed l l' from (line_text fields) at line_most
fields-all l l' fields from at i h k few p =
    let e : i ≡ length fields = omega arith in
    let text : text_to i fields ≡ line_text fields = ap (λ (m : ℕ). text_to m fields) e in
    record {
      bytes = p.bytes ∙ ap (put l from) text;
      end_is = p.end_is ∙ ap (λ (x : List ℕ). from + length x) text;
      fits = omega (arith, p.fits);
    }
