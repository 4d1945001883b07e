-- Rows found by id: the search of the definitions agrees with a walk that stops at the first id not below the one sought.
--   found-yes, found-no   the search's answer where the walk stopped at the id, and where not
--   find-has              a search that ends at a row found its id there
--   corrects-sought       whether a row corrects one of the interval's, by where the walk stopped
--   under_next, sought-here, sought-none      the walk's steps
use mathlib.Core.Path.{◌≡◌, refl}
use mathlib.Core.Logic.{⊎_elim}
use Prim.Native.Nat.{ℕ, ◌+◌, ◌*◌, ◌≤◌, ◌<◌}
use mathlib.Core.Bool.{Bool, true, false, ◌&&◌}
use mathlib.Core.List.{List}
use native.Mathlib.Omega.{arith}
use lib.Dec.{eqb, ltb}
use borrow.Author.Tests.{lt-ltb, le-ltb, ltb-true, ne_eqb, eqb-true, eqb-false}
use borrow.Author.Count.{below_more}
use Rattle.columns.proofs.First.{left-true, right-true}
use Rattle.columns.proofs.Rank.{find-is, find-passes}
use Rattle.columns.proofs.Sum.{lt-or-le}
use Rattle.files.specs.Layout.{row_size, row_at}
use Rattle.files.specs.Form.{rows_from}
use Rattle.files.specs.Walk.{id_of, has_id, find_id, Rows, Own, Under, Sought}
use Rattle.files.specs.Order.{alike, corrects}
use Rattle.files.specs.declared.Row.{Row}

pub find-has : (s : List ℕ) (start size n id : ℕ) → find_id s start size n id < n → id_of s start size (find_id s start size n id) ≡ id
unfolding find_id has_id
find-has s start size n id l = eqb-true _ _ (find-passes n (has_id s start size id) l)

-- row r is there and has this id
abbrev pub has : List ℕ → ℕ → ℕ → ℕ → ℕ → ℕ → Bool
has s start size n r id = ltb r n && eqb (id_of s start size r) id

module _ (s : List ℕ) (start size n id r : ℕ) (rows : Rows s start size n) (w : Sought s start size n id r) where
  pub found-yes : has s start size n r id ≡ true → find_id s start size n id ≡ r
  unfolding find_id has_id
  found-yes e =
      find-is n (has_id s start size id) r (ltb-true r n (left-true (ltb r n) (eqb (id_of s start size r) id) e))
      (right-true (ltb r n) (eqb (id_of s start size r) id) e)
      (λ x l. ne_eqb (id_of s start size x) id (λ (q : id_of s start size x ≡ id). omega (arith, w.under x l)))

  -- no row has the id if the one where the walk stopped has not
  nowhere : has s start size n r id ≡ false → (x : ℕ) → x < n → id_of s start size x ≡ id → ⊥
  nowhere e x l q =
      ⊎_elim (λ (o : x < r). omega (arith, w.under x o))
      (λ (o : r ≤ x).
      ⊎_elim (λ (z : r < x). omega (arith, rows.rising r x z l, w.reached (omega arith)))
      (λ (z : x ≤ r).
      let same : x ≡ r = omega arith in
      eqb-false (id_of s start size r) id (rw (lt-ltb r n (omega arith)) at e) (rw same at q))
      (lt-or-le r x))
      (lt-or-le x r)

  pub found-no : has s start size n r id ≡ false → ltb (find_id s start size n id) n ≡ false
  found-no e =
      ⊎_elim (λ (l : find_id s start size n id < n). absurd (nowhere e (find_id s start size n id) l (find-has s start size n id l)))
      (λ (m : n ≤ find_id s start size n id). le-ltb (find_id s start size n id) n m) (lt-or-le (find_id s start size n id) n)

-- row r of those that begin at byte `start` is there and like this row
abbrev pub matches : List ℕ → ℕ → ℕ → ℕ → Row → Bool
matches s start n r row = ltb r n && alike (row_at s (start + r * row_size)) row

-- a row of another id is not like this one
other-id : (s : List ℕ) (start n r : ℕ) (row : Row) → has s start row_size n r row.id ≡ false → matches s start n r row ≡ false
unfolding alike
other-id s start n r row e =
    ⊎_elim (λ (l : r < n). rw (lt-ltb r n l, rw (lt-ltb r n l) at e)) (λ (m : n ≤ r). rw (le-ltb r n m)) (lt-or-le r n)

pub corrects-sought : (s : List ℕ) (start n r : ℕ) (row : Row) → start ≡ rows_from s → Own s n → Sought s start row_size n row.id r
    → corrects s row ≡ matches s start n r row
unfolding corrects
corrects-sought s start n r row from own w = rw (← own.told, ← from) (go (has s start row_size n r row.id) refl) where
  rows : Rows s start row_size n
  rows = rw from own.rows

  go : (t : Bool) → has s start row_size n r row.id ≡ t
      → (ltb (find_id s start row_size n row.id) n && alike (row_at s (start + find_id s start row_size n row.id * row_size)) row)
      ≡ matches s start n r row
  go true e = rw (found-yes s start row_size n row.id r rows w e)
  go false e = rw (found-no s start row_size n row.id r rows w e, other-id s start n r row e)

pub under_next : (s : List ℕ) (start size i id f : ℕ) → Under s start size i id → f ≡ id_of s start size i → f < id → Under s start size (i + 1) id
under_next s start size i id f u e l = below_more (λ (x : ℕ). id_of s start size x < id) i u (omega arith)

pub sought-here : (s : List ℕ) (start size n i id f : ℕ) → i < n → Under s start size i id → f ≡ id_of s start size i → id ≤ f → Sought s start size n id i
sought-here s start size n i id f l u e m = record { short = omega arith; under = u; reached = λ o. omega arith }

pub sought-none : (s : List ℕ) (start size n i id : ℕ) → i ≤ n → Under s start size i id → n ≤ i → Sought s start size n id i
sought-none s start size n i id l u m = record { short = l; under = u; reached = λ o. absurd (omega arith) }
