-- Laws of tables (specs/Table.antt); d stands past a list's end.
--     table-length    a table of n has length n
--     table_at        what stands at a position below n
--     table-past      the default stands past the end
--     table_same      functions that agree below n have the same table
--     table_is        a list of length n with f k at each position is the table: what a filling loop ends with
--     table-list      a list is the table of what stands in it
--     table-next      the table of n + 1, as a loop meets it
--     fill-next       one store more of a loop that fills a slice
--     table-most      terms of at most m: so is every number of the table
--     front_long      the front of an array is as long as it was cut
use Prim.Native.Nat.{ℕ, zero, suc, ◌+◌, ◌≤◌, ◌<◌}
use mathlib.Core.Path.{◌≡◌, refl, sym, ◌∙◌}
use mathlib.Core.Logic.{⊎_elim}
use mathlib.Core.List.{List, [], ◌∷◌, ◌++◌}
use native.Mathlib.Numerals.{add-one}
use native.Mathlib.Omega.{arith}
use lib.ListN.{length, get_or, take, set, length-append, get_or-append, get_or-eq_default}
use lib.Seq.{length-take-le, get_or_at, get_or-set_same, get_or-set_other, ext_get_or}
use borrow.Author.Count.{below_more}
use Rattle.columns.specs.Table.{at, table, Below}
use Rattle.columns.proofs.Sum.{lt-or-le}

module _ {A : Type 0} where
  pub table-length : (n : ℕ) (f : ℕ → A) → length (table n f) ≡ n
  unfolding table
  table-length zero f = refl
  table-length (suc n) f = omega (arith, length-append (table n f) (f n ∷ []), table-length n f)

  pub table_at : (d : A) (n : ℕ) (f : ℕ → A) (k : ℕ) → k < n → get_or (table n f) k d ≡ f k
  unfolding table
  table_at d zero f k l = absurd (omega arith)
  table_at d (suc n) f k l =
      ⊎_elim
      (λ (q : k < n). get_or-append (table n f) (f n ∷ []) d k (omega (arith, table-length n f)) ∙ table_at d n f k q)
      (λ (q : n ≤ k). let e : k ≡ n = omega arith in rw e (get_or_at (table n f) (f n) [] d n (table-length n f)))
      (lt-or-le k n)

  pub table-past : (d : A) (n : ℕ) (f : ℕ → A) (k : ℕ) → n ≤ k → get_or (table n f) k d ≡ d
  table-past d n f k q = get_or-eq_default (table n f) d (omega (arith, table-length n f))

  pub table_same : (n : ℕ) (f g : ℕ → A) → Below n (λ k. f k ≡ g k) → table n f ≡ table n g
  unfolding table
  table_same zero f g h = refl
  table_same (suc n) f g h = rw (table_same n f g (λ k l. h k (omega arith)), h n (omega arith))

  pub table_is : (d : A) (l : List A) (n : ℕ) (f : ℕ → A) → length l ≡ n → Below n (λ k. get_or l k d ≡ f k) → l ≡ table n f
  table_is d l n f e h =
      ext_get_or d l (table n f) (e ∙ sym (table-length n f))
      (λ k q. h k (omega arith) ∙ sym (table_at d n f k (omega arith)))

  pub table-list : (d : A) (l : List A) → l ≡ table (length l) (λ k. get_or l k d)
  table-list d l = table_is d l (length l) (λ k. get_or l k d) refl (λ k q. refl)

  pub table-next : (n : ℕ) (f : ℕ → A) → table (n + 1) f ≡ table n f ++ (f n ∷ [])
  unfolding table
  table-next n f = rw add-one

  pub fill-next : (d : A) (l : List A) (i : ℕ) (v : A) (f : ℕ → A) → i < length l → v ≡ f i → Below i (λ k. get_or l k d ≡ f k)
      → Below (i + 1) (λ k. get_or (set l i v) k d ≡ f k)
  fill-next d l i v f inside e h =
      below_more (λ (k : ℕ). get_or (set l i v) k d ≡ f k) i (λ k q. get_or-set_other l i k v d (omega arith) ∙ h k q)
      (get_or-set_same l i v d inside ∙ e)

  pub front_long : (l : List A) (n m : ℕ) → length l ≡ m → n ≤ m → n ≡ length (take n l)
  front_long l n m e h = sym (length-take-le n l (omega arith))

pub table-most : (n m : ℕ) (f : ℕ → ℕ) → Below n (λ i. f i ≤ m) → (i : ℕ) → at (table n f) i ≤ m
table-most n m f h i =
    ⊎_elim (λ (l : i < n). omega (arith, table_at 0 n f i l, h i l)) (λ (l : n ≤ i). omega (arith, table-past 0 n f i l))
    (lt-or-le i n)
