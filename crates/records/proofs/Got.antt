-- The loop that reads a record's fields: those before field i stand in `fields`, and field i begins at `end`.
--   got-none, -next, -all, -fits   its start, a turn, its end
--   got-room, width_narrow         what a turn asks of the reader of numbers
use mathlib.Core.Path.{◌≡◌, sym, ◌∙◌}
use mathlib.Core.Bool.{true}
use mathlib.Core.List.{List, [], ◌∷◌}
use Prim.Native.Nat.{ℕ, zero, suc, ◌+◌, ◌^◌, ◌≤◌, ◌<◌}
use native.Mathlib.Numerals.{add-one}
use native.Mathlib.Omega.{arith}
use lib.Dec.{leb}
use lib.ListN.{length, take, set, length-set}
use lib.Seq.{get_or-set_same, get_or-set_other, ext_get_or}
use borrow.Author.Count.{below_more}
use borrow.Author.Tests.{leb-true}
use Rattle.columns.specs.Table.{at, Below}
use Rattle.columns.proofs.First.{left-true, right-true}
use Rattle.columns.proofs.Table.{fill-next}
use Rattle.records.specs.Number.{number_at}
use Rattle.records.specs.Fields.{span}
use Rattle.records.specs.Record.{record_size, record_at, narrow, Fits}
use Rattle.records.proofs.Record.{fields-count, field_at, fits_each, span-part, span-next}

narrow_at : (ws : List ℕ) → narrow ws ≡ true → (i : ℕ) → at ws i ≤ 8
narrow_at [] e i = omega arith
narrow_at (w ∷ ws) e zero = leb-true w 8 (left-true (leb w 8) (narrow ws) e)
narrow_at (w ∷ ws) e (suc i) = narrow_at ws (right-true (leb w 8) (narrow ws) e) i

pub width_narrow : (ws : List ℕ) (i w : ℕ) → w ≡ at ws i → narrow ws ≡ true → w ≤ 8
width_narrow ws i w is e = omega (arith, narrow_at ws e i)

pub record Got (s : List ℕ) (k : ℕ) (ws xs : List ℕ) (end i : ℕ) : Type 0 where
  pub within : i ≤ length ws
  pub long : length xs ≡ length ws
  pub ends : end ≡ k + 2 + span (take i ws)
  pub early : end ≤ k + record_size ws
  pub done : Below i (λ j. at xs j ≡ at (record_at ws s k) j)
  pub fits : Below i (λ j. at xs j < 256 ^ at ws j)

pub got-none : (s : List ℕ) (k : ℕ) (ws xs : List ℕ) → length xs ≡ length ws → Got s k ws xs (k + 2) 0
got-none s k ws xs e =
    record { within = omega arith; long = e; ends = omega arith; early = omega arith; done = λ j l. absurd (omega arith); fits = λ j l. absurd (omega arith) }

module _ (s : List ℕ) (k : ℕ) (ws xs : List ℕ) (end i : ℕ) (g : Got s k ws xs end i) where
  pub got-room : (w : ℕ) → w ≡ at ws i → i < length ws → k + record_size ws ≤ length s → end + w ≤ length s
  got-room w is h room = omega (arith, g.ends, span-part ws i h)

  pub got-next : (w v : ℕ) → w ≡ at ws i → v ≡ number_at w s end → v < 256 ^ w → i < length ws → Got s k ws (set xs i v) (end + w) (i + 1)
  unfolding record_at
  got-next w v is read fit h =
      let in-xs : i < length xs = omega (arith, g.long) in
      let here : v ≡ at (record_at ws s k) i = rw (field_at ws s (k + 2) i h, ← g.ends, ← is) read in
      record {
        within = omega arith;
        long = length-set xs i v ∙ g.long;
        ends = rw add-one (omega (arith, g.ends, span-next ws i h));
        early = omega (arith, g.ends, span-part ws i h);
        done = fill-next 0 xs i v (at (record_at ws s k)) in-xs here g.done;
        fits =
            below_more (λ (j : ℕ). at (set xs i v) j < 256 ^ at ws j) i
            (λ j l. rw (get_or-set_other xs i j v 0 (omega arith)) (g.fits j l)) (rw (get_or-set_same xs i v 0 in-xs, ← is) fit);
      }

  pub got-all : length ws ≤ i → xs ≡ record_at ws s k
  unfolding record_at
  got-all done =
      ext_get_or 0 xs (record_at ws s k) (g.long ∙ sym (fields-count ws s (k + 2))) (λ j l. g.done j (omega (arith, g.long)))

  pub got-fits : length ws ≤ i → Fits ws xs
  got-fits done = fits_each ws xs (λ j l. g.fits j (omega arith))
