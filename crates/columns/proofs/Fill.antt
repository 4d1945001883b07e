-- A loop that goes over a list and puts f k at each position k: what it has reached before position i.
--     Reached          below i stands f, from i on what stood there at the start
--     reached-none     the start
--     reached-next     one store more
--     reached-same     one position more, without a store: f is what stood there
--     reached-now      at i still stands what stood there at the start
--     reached-all      at the end the list is the table of f
--     reached-front    and where only the first n positions are gone over, that table with the rest behind it
-- d stands past a list's end; 0 for a column.
use Prim.Native.Nat.{ℕ, ◌+◌, ◌≤◌, ◌<◌}
use mathlib.Core.Path.{◌≡◌, refl, sym, ◌∙◌}
use mathlib.Core.List.{List, ◌++◌}
use native.Mathlib.Nat.{le_refl}
use native.Mathlib.Omega.{arith}
use borrow.Author.Count.{below_more}
use lib.ListN.{length, get_or, set, take, drop, length-set, length-drop, take-append-drop}
use lib.Seq.{get_or-set_other, get_or-take, get_or-drop, length-take-le, ext_get_or}
use Rattle.columns.specs.Table.{table, Below}
use Rattle.columns.proofs.Table.{table_is, fill-next}

pub record Reached {A : Type 0} (d : A) (f : ℕ → A) (start now : List A) (i : ℕ) : Type 0 where
  pub within : i ≤ length start
  pub room : length now ≡ length start
  pub done : Below i (λ k. get_or now k d ≡ f k)
  pub kept : (k : ℕ) → i ≤ k → get_or now k d ≡ get_or start k d

module _ {A : Type 0} where
  pub reached-none : (d : A) (f : ℕ → A) (start : List A) → Reached d f start start 0
  reached-none d f start = record { within = omega arith; room = refl; done = λ k l. absurd (omega arith); kept = λ k l. refl }

  pub reached-next : (d : A) (f : ℕ → A) (start now : List A) (i : ℕ) (v : A) → Reached d f start now i → i < length now → v ≡ f i
      → Reached d f start (set now i v) (i + 1)
  reached-next d f start now i v r l e =
      record {
        within = omega (arith, r.room);
        room = length-set now i v ∙ r.room;
        done = fill-next d now i v f l e r.done;
        kept = λ k m. get_or-set_other now i k v d (omega arith) ∙ r.kept k (omega arith);
      }

  pub reached-same : (d : A) (f : ℕ → A) (start now : List A) (i : ℕ) → Reached d f start now i → i < length start → get_or start i d ≡ f i
      → Reached d f start now (i + 1)
  reached-same d f start now i r l e =
      record {
        within = omega arith;
        room = r.room;
        done = below_more (λ (k : ℕ). get_or now k d ≡ f k) i r.done (r.kept i (le_refl i) ∙ e);
        kept = λ k m. r.kept k (omega arith);
      }

  pub reached-now : (d : A) (f : ℕ → A) (start now : List A) (i : ℕ) → Reached d f start now i → get_or now i d ≡ get_or start i d
  reached-now d f start now i r = r.kept i (le_refl i)

  pub reached-all : (d : A) (f : ℕ → A) (start now : List A) (i : ℕ) → Reached d f start now i → length now ≤ i
      → now ≡ table (length start) f
  reached-all d f start now i r l = table_is d now (length start) f r.room (λ k m. r.done k (omega (arith, r.room)))

  pub reached-front : (d : A) (f : ℕ → A) (start now : List A) (n : ℕ) → Reached d f start now n → now ≡ table n f ++ drop n start
  reached-front d f start now n r =
      let front : take n now ≡ table n f =
      table_is d (take n now) n f (length-take-le n now (omega (arith, r.within, r.room))) (λ k l. get_or-take n now k d l ∙ r.done k l) in
      let back : drop n now ≡ drop n start =
      ext_get_or d (drop n now) (drop n start) (omega (arith, length-drop n now, length-drop n start, r.room))
      (λ k l. get_or-drop n now k d ∙ r.kept (n + k) (omega arith) ∙ sym (get_or-drop n start k d)) in
      sym (take-append-drop n now) ∙ (λ j. front j ++ back j)
