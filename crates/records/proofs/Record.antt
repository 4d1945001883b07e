-- Records by a table of widths: lengths, each field's place, what is read back of what was written, and written back of what was read.
--   fields-length, record-length   so many bytes as the widths say; span-part: those in front of a field and of the field are among them
--   fields-count     as many fields are read as there are widths
--   field_at         where field j of the fields from position k on stands
--   fits_each, fits-at   that numbers fit their widths, from and to one order for each position
--   fields_read, record-read     read after write: fields that fit their widths are read again, whatever stands around them
--   record-drop, record-behind   reading from a part of a list is reading further on in it
--   record-front     a record that ends within the first of two joined lists is read from it alone
--   fields-write, record-write   write after read: bytes, read as fields, are written as the same bytes
--   fields_fit       fields read from bytes fit their widths
--   field_put        a number put at the place of field j is the record with that field changed
--   field_is         the number at the place of field j is that field, if it fits its width
--   record-put       a mark by two stores and the fields behind it are a record put
use mathlib.Core.Path.{◌≡◌, refl, sym, ap, ◌∙◌}
use mathlib.Core.Bool.{true}
use mathlib.Core.List.{List, [], ◌∷◌, ◌++◌, append_assoc}
use Prim.Native.Nat.{ℕ, zero, suc, ◌+◌, ◌^◌, ◌≤◌, ◌<◌}
use native.Mathlib.Nat.{add-zero, add_assoc, le_of_suc-le-suc}
use native.Mathlib.Numerals.{add-one}
use native.Mathlib.Omega.{arith}
use lib.Dec.{eqb}
use lib.ListN.{length, get_or, take, drop, set, length-append, length-set}
use lib.Seq.{drop_at, drop-cons, drop-drop, take-add}
use borrow.Author.Tests.{eqb-true}
use Rattle.columns.specs.Table.{at, Below}
use Rattle.columns.proofs.First.{left-true, right-true}
use Rattle.records.specs.Number.{number_at, number_bytes}
use Rattle.records.specs.Fields.{span, fields_bytes}
use Rattle.records.specs.Buffer.{put}
use Rattle.records.specs.Record.{letter_p, marked, record_size, fields_at, record_at, record_bytes, FitsFrom, Fits}
use Rattle.records.proofs.Number.{number-length, number-drop, number-front, number-back, number_read, number-write}
use Rattle.records.proofs.Reading.{number_bound}
use Rattle.records.proofs.Buffer.{put_whole, put-left, put_right}
use Rattle.records.proofs.Fields.{put_first}

pub fields-length : (ws xs : List ℕ) → length xs ≡ length ws → length (fields_bytes ws xs) ≡ span ws
unfolding fields_bytes
fields-length [] xs e = refl
fields-length (w ∷ ws) [] e = absurd (omega arith)
fields-length (w ∷ ws) (x ∷ xs) e =
    omega (arith, length-append (number_bytes w x) (fields_bytes ws xs), number-length w x, fields-length ws xs (omega arith))

pub record-length : (letter : ℕ) (ws xs : List ℕ) → length xs ≡ length ws → length (record_bytes letter ws xs) ≡ record_size ws
unfolding record_bytes
record-length letter ws xs e = omega (arith, fields-length ws xs e)

pub span-part : (ws : List ℕ) (j : ℕ) → j < length ws → span (take j ws) + at ws j ≤ span ws
span-part [] j l = absurd (omega arith)
span-part (w ∷ ws) zero l = omega arith
span-part (w ∷ ws) (suc j) l = omega (arith, span-part ws j (le_of_suc-le-suc l))

pub span-next : (ws : List ℕ) (j : ℕ) → j < length ws → span (take (suc j) ws) ≡ span (take j ws) + at ws j
span-next [] j l = absurd (omega arith)
span-next (w ∷ ws) zero l = omega arith
span-next (w ∷ ws) (suc j) l = omega (arith, span-next ws j (le_of_suc-le-suc l))

pub fields-count : (ws s : List ℕ) (k : ℕ) → length (fields_at ws s k) ≡ length ws
unfolding fields_at
fields-count [] s k = refl
fields-count (w ∷ ws) s k = ap suc (fields-count ws s (k + w))

pub field_at : (ws s : List ℕ) (k j : ℕ) → j < length ws → at (fields_at ws s k) j ≡ number_at (at ws j) s (k + span (take j ws))
unfolding fields_at
field_at [] s k j l = absurd (omega arith)
field_at (w ∷ ws) s k zero l = rw (add-zero k)
field_at (w ∷ ws) s k (suc j) l = rw (← add_assoc k w (span (take j ws))) (field_at ws s (k + w) j (le_of_suc-le-suc l))

fits-from : (ws xs : List ℕ) (i : ℕ) → Below (length ws) (λ j. at xs (i + j) < 256 ^ at ws j) → FitsFrom i ws xs
fits-from [] xs i h = tt
fits-from (w ∷ ws) xs i h =
    (rw (add-zero i) at (h 0 (omega arith)), fits-from ws xs (suc i) (λ j l. let e : suc i + j ≡ i + suc j = omega arith in rw e (h (suc j) (omega arith))))

from-fits : (ws xs : List ℕ) (i : ℕ) → FitsFrom i ws xs → Below (length ws) (λ j. at xs (i + j) < 256 ^ at ws j)
from-fits [] xs i f j l = absurd (omega arith)
from-fits (w ∷ ws) xs i f zero l = rw (add-zero i) f.0
from-fits (w ∷ ws) xs i f (suc j) l = let e : i + suc j ≡ suc i + j = omega arith in rw e (from-fits ws xs (suc i) f.1 j (le_of_suc-le-suc l))

pub fits_each : (ws xs : List ℕ) → Below (length ws) (λ j. at xs j < 256 ^ at ws j) → Fits ws xs
fits_each ws xs h = fits-from ws xs 0 (λ j l. let e : 0 + j ≡ j = omega arith in rw e (h j l))

pub fits-at : (ws xs : List ℕ) → Fits ws xs → Below (length ws) (λ j. at xs j < 256 ^ at ws j)
fits-at ws xs f j l = let e : 0 + j ≡ j = omega arith in rw e at (from-fits ws xs 0 f j l)

fields-drop : (ws s : List ℕ) (n k : ℕ) → fields_at ws (drop n s) k ≡ fields_at ws s (n + k)
unfolding fields_at
fields-drop [] s n k = refl
fields-drop (w ∷ ws) s n k = rw (number-drop w s n k, fields-drop ws s n (k + w), add_assoc n k w)

-- fields behind a run of bytes are read from what follows the run
pub fields-behind : (ws a b : List ℕ) (n k : ℕ) → length a ≡ n → fields_at ws (a ++ b) (n + k) ≡ fields_at ws b k
fields-behind ws a b n k e = sym (fields-drop ws (a ++ b) n k) ∙ ap (λ (s : List ℕ). fields_at ws s k) (drop_at a b n e)

read-from : (ws xs b : List ℕ) → length xs ≡ length ws → Below (length ws) (λ j. at xs j < 256 ^ at ws j)
    → fields_at ws (fields_bytes ws xs ++ b) 0 ≡ xs
unfolding fields_at fields_bytes
read-from [] [] b e h = refl
read-from [] (x ∷ xs) b e h = absurd (omega arith)
read-from (w ∷ ws) [] b e h = absurd (omega arith)
read-from (w ∷ ws) (x ∷ xs) b e h =
    let rest = fields_bytes ws xs ++ b in
    let on : 0 + w ≡ w + 0 = omega arith in
    let first : number_at w (number_bytes w x ++ rest) 0 ≡ x = number_read w x [] rest (h 0 (omega arith)) in
    let later : fields_at ws (number_bytes w x ++ rest) (w + 0) ≡ xs =
    fields-behind ws (number_bytes w x) rest w 0 (number-length w x) ∙ read-from ws xs b (omega arith) (λ j l. h (suc j) (omega arith)) in
    rw (append_assoc (number_bytes w x) (fields_bytes ws xs) b, on, first, later)

pub fields_read : (ws xs a b : List ℕ) → length xs ≡ length ws → Fits ws xs → fields_at ws (a ++ (fields_bytes ws xs ++ b)) (length a) ≡ xs
fields_read ws xs a b e f =
    rw (← add-zero (length a))
    (fields-behind ws a (fields_bytes ws xs ++ b) (length a) 0 refl ∙ read-from ws xs b e (fits-at ws xs f))

pub record-read : (letter : ℕ) (ws xs a b : List ℕ) → length xs ≡ length ws → Fits ws xs
    → record_at ws (a ++ (record_bytes letter ws xs ++ b)) (length a) ≡ xs
unfolding record_at record_bytes
record-read letter ws xs a b e f =
    fields-behind ws a (letter_p ∷ letter ∷ fields_bytes ws xs ++ b) (length a) 2 refl
    ∙ fields_read ws xs (letter_p ∷ letter ∷ []) b e f

pub record-drop : (ws s : List ℕ) (n k : ℕ) → record_at ws (drop n s) k ≡ record_at ws s (n + k)
unfolding record_at
record-drop ws s n k = rw (add_assoc n k 2) (fields-drop ws s n (k + 2))

pub record-behind : (ws a b : List ℕ) (n k : ℕ) → length a ≡ n → record_at ws (a ++ b) (n + k) ≡ record_at ws b k
record-behind ws a b n k e = sym (record-drop ws (a ++ b) n k) ∙ ap (λ (s : List ℕ). record_at ws s k) (drop_at a b n e)

fields-front : (ws a b : List ℕ) (k : ℕ) → k + span ws ≤ length a → fields_at ws (a ++ b) k ≡ fields_at ws a k
unfolding fields_at
fields-front [] a b k l = refl
fields-front (w ∷ ws) a b k l = rw (number-front w a b k (omega arith), fields-front ws a b (k + w) (omega arith))

pub record-front : (ws a b : List ℕ) (k : ℕ) → k + record_size ws ≤ length a → record_at ws (a ++ b) k ≡ record_at ws a k
unfolding record_at
record-front ws a b k l = fields-front ws a b (k + 2) (omega arith)

pub fields-write : (ws s : List ℕ) (k : ℕ) → ((i : ℕ) → get_or s i 0 < 256) → k + span ws ≤ length s
    → fields_bytes ws (fields_at ws s k) ≡ take (span ws) (drop k s)
unfolding fields_at fields_bytes
fields-write [] s k small h = refl
fields-write (w ∷ ws) s k small h =
    rw (
      number-write w s k small (omega arith),
      fields-write ws s (k + w) small (omega arith),
      take-add w (span ws) (drop k s),
      drop-drop w k s,
    )

pub record-write : (letter : ℕ) (ws s : List ℕ) (k : ℕ) → ((i : ℕ) → get_or s i 0 < 256) → k + record_size ws ≤ length s
    → marked s k letter ≡ true → record_bytes letter ws (record_at ws s k) ≡ take (record_size ws) (drop k s)
unfolding record_at record_bytes
record-write letter ws s k small h m =
    let one : get_or s k 0 ≡ letter_p = eqb-true _ _ (left-true (eqb (get_or s k 0) letter_p) (eqb (get_or s (k + 1) 0) letter) m) in
    let two : get_or s (k + 1) 0 ≡ letter = eqb-true _ _ (right-true (eqb (get_or s k 0) letter_p) (eqb (get_or s (k + 1) 0) letter) m) in
    let size : 2 + span ws ≡ suc (suc (span ws)) = omega arith in
    let next : k + 2 ≡ suc (suc k) = omega arith in
    let here : drop k s ≡ letter_p ∷ letter ∷ drop (k + 2) s =
    drop-cons s k 0 (omega arith) ∙ (rw (← add-one k, drop-cons s (k + 1) 0 (omega arith), one, two, next, add-one k)) in
    rw (size, here, fields-write ws s (k + 2) small (omega arith))

pub fields_fit : (ws s : List ℕ) (k : ℕ) → ((i : ℕ) → get_or s i 0 < 256) → Fits ws (fields_at ws s k)
fields_fit ws s k small =
    fits_each ws (fields_at ws s k) (λ j l. rw (field_at ws s k j l) (number_bound (at ws j) s (k + span (take j ws)) small))

-- the same of a record's fields
pub record-fits : (ws s : List ℕ) (k : ℕ) → ((i : ℕ) → get_or s i 0 < 256) → Fits ws (record_at ws s k)
unfolding record_at
record-fits ws s k small = fields_fit ws s (k + 2) small

field_put : (ws xs : List ℕ) (j x : ℕ) → length xs ≡ length ws → j < length ws
    → put (fields_bytes ws xs) (span (take j ws)) (number_bytes (at ws j) x) ≡ fields_bytes ws (set xs j x)
unfolding fields_bytes
field_put [] xs j x e l = absurd (omega arith)
field_put (w ∷ ws) [] j x e l = absurd (omega arith)
field_put (w ∷ ws) (y ∷ ys) zero x e l =
    put-left (number_bytes w y) (fields_bytes ws ys) 0 (number_bytes w x) (omega (arith, number-length w x, number-length w y))
    ∙ ap (λ (b : List ℕ). b ++ fields_bytes ws ys) (put_whole (number_bytes w y) (number_bytes w x) (number-length w x ∙ sym (number-length w y)))
field_put (w ∷ ws) (y ∷ ys) (suc j) x e l =
    put_right (number_bytes w y) (fields_bytes ws ys) w (span (take j ws)) (number_bytes (at ws j) x) (number-length w y)
    ∙ ap (λ (b : List ℕ). number_bytes w y ++ b) (field_put ws ys j x (omega arith) (le_of_suc-le-suc l))

pub record-with : (letter : ℕ) (ws xs : List ℕ) (j x : ℕ) → length xs ≡ length ws → j < length ws
    → put (record_bytes letter ws xs) (2 + span (take j ws)) (number_bytes (at ws j) x) ≡ record_bytes letter ws (set xs j x)
unfolding record_bytes
record-with letter ws xs j x e l =
    put_right (letter_p ∷ letter ∷ []) (fields_bytes ws xs) 2 (span (take j ws)) (number_bytes (at ws j) x) refl
    ∙ ap (λ (b : List ℕ). letter_p ∷ letter ∷ b) (field_put ws xs j x e l)

-- a number behind a run of bytes is read from what follows the run
pub number_behind : (w : ℕ) (a b : List ℕ) (n k : ℕ) → length a ≡ n → number_at w (a ++ b) (n + k) ≡ number_at w b k
number_behind w a b n k e = rw (← e) (number-back w a b k)

field_is : (ws xs : List ℕ) (j : ℕ) → length xs ≡ length ws → j < length ws → at xs j < 256 ^ at ws j
    → number_at (at ws j) (fields_bytes ws xs) (span (take j ws)) ≡ at xs j
unfolding fields_bytes
field_is [] xs j e l f = absurd (omega arith)
field_is (w ∷ ws) [] j e l f = absurd (omega arith)
field_is (w ∷ ws) (x ∷ xs) zero e l f = number_read w x [] (fields_bytes ws xs) f
field_is (w ∷ ws) (x ∷ xs) (suc j) e l f =
    number_behind (at ws j) (number_bytes w x) (fields_bytes ws xs) w (span (take j ws)) (number-length w x)
    ∙ field_is ws xs j (omega arith) (le_of_suc-le-suc l) f

pub record_is : (letter : ℕ) (ws xs : List ℕ) (j : ℕ) → length xs ≡ length ws → j < length ws → at xs j < 256 ^ at ws j
    → number_at (at ws j) (record_bytes letter ws xs) (2 + span (take j ws)) ≡ at xs j
unfolding record_bytes
record_is letter ws xs j e l f =
    number_behind (at ws j) (letter_p ∷ letter ∷ []) (fields_bytes ws xs) 2 (span (take j ws)) refl ∙ field_is ws xs j e l f

pub record-put : (out out' : List ℕ) (k letter : ℕ) (ws xs : List ℕ)
    → out' ≡ put (set (set out k letter_p) (k + 1) letter) (k + 2) (fields_bytes ws xs) → k + record_size ws ≤ length out
    → out' ≡ put out k (record_bytes letter ws xs)
unfolding record_bytes
record-put out out' k letter ws xs e room =
    let on : k + 2 ≡ k + 1 + 1 = omega arith in
    let long : k + 1 < length (set out k letter_p) = simp length-set (omega arith) in
    e ∙ rw (on, put_first (set out k letter_p) (k + 1) letter (fields_bytes ws xs) long)
    (put_first out k letter_p (letter ∷ fields_bytes ws xs) (omega arith))
