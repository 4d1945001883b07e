-- The loops over a column: cells read into it one by one, and put from it.
--   cell-narrow        a number of at most four bytes is one of a column
--   read-room          the cell that the reading loop comes to lies in the buffer; read_all: its end
--   Filled             how far the writing loop has come; filled_none, -room, -next, -all: its start, its next cell, a turn, its end
use mathlib.Core.Path.{◌≡◌, refl, ◌∙◌}
use mathlib.Core.List.{List}
use Prim.Native.Nat.{ℕ, ◌+◌, ◌^◌, ◌≤◌, ◌<◌}
use native.Mathlib.Nat.{pow-le-pow_right}
use native.Mathlib.Numerals.{add-one}
use native.Mathlib.Omega.{arith}
use lib.Dec.{lit<}
use lib.ListN.{length}
use Rattle.columns.specs.Table.{at}
use Rattle.columns.proofs.Fill.{Reached, reached-all}
use Rattle.records.specs.Sheet.{cell_at, cell, column_of, with_cell, with_cells, with_column, Lined}
use Rattle.records.specs.declared.Field.{Field}
use Rattle.records.proofs.Sheet.{cell_room, cell-length}

pub cell-narrow : (w x : ℕ) → x < 256 ^ w → w ≤ 4 → x < 2 ^ 32
cell-narrow w x h l = omega (arith, pow-le-pow_right {n = 256} (lit< tt) l)

module _ (f : Field) (s start now : List ℕ) (i : ℕ) (r : Reached 0 (cell f s) start now i) where
  pub read-room : Lined f (length start) s → i < length now → cell_at f i + f.width ≤ length s
  read-room lined l = cell_room f (length start) i s lined (omega (arith, r.room))

  pub read_all : length now ≤ i → now ≡ column_of f (length start) s
  unfolding column_of
  read_all l = reached-all 0 (cell f s) start now i r l

pub record Filled (f : Field) (xs s₀ s : List ℕ) (i : ℕ) : Type 0 where
  pub within : i ≤ length xs
  pub long : length s ≡ length s₀
  pub is : s ≡ with_cells f i xs s₀

pub filled_none : (f : Field) (xs s : List ℕ) → Filled f xs s s 0
unfolding with_cells
filled_none f xs s = record { within = omega arith; long = refl; is = refl }

module _ (f : Field) (xs s₀ s : List ℕ) (i : ℕ) (r : Filled f xs s₀ s i) where
  pub filled-room : Lined f (length xs) s₀ → i < length xs → cell_at f i + f.width ≤ length s
  filled-room lined l = omega (arith, r.long, cell_room f (length xs) i s₀ lined l)

  pub filled_next : (s' : List ℕ) (x : ℕ) → x ≡ at xs i → s' ≡ with_cell f i x s → Lined f (length xs) s₀ → i < length xs → Filled f xs s₀ s' (i + 1)
  unfolding with_cells
  filled_next s' x v e lined l =
      record {
        within = omega arith;
        long = rw e (cell-length f i x s (filled-room lined l) ∙ r.long);
        is = rw (e, v, r.is, add-one);
      }

  pub filled-all : length xs ≤ i → s ≡ with_column f xs s₀
  unfolding with_column
  filled-all l = let e : length xs ≡ i = omega (arith, r.within) in rw e r.is
