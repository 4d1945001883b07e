-- An accepted pair of files, as the stages ask for it.
--   first-is, first-inside     the position that goes first is one of the rows, unless there is none
--   rows-ranged        the rows that count are in their ranges
--   duties-within      the columns of duties are within sizes
use Prim.Native.Nat.{ℕ, ◌%◌, ◌≤◌, ◌<◌}
use mathlib.Core.Path.{◌≡◌}
use mathlib.Core.List.{List}
use native.Mathlib.Nat.{mod-lt}
use native.Mathlib.Omega.{arith}
use borrow.Author.Tests.{ne_eqb}
use Rattle.columns.specs.Table.{Below}
use Rattle.files.specs.Layout.{head_at, row_count}
use Rattle.files.specs.Form.{terms_of}
use Rattle.files.specs.Order.{verdict_of}
use Rattle.files.specs.Counting.{counting_row}
use Rattle.files.specs.Verdict.{Accepted}
use Rattle.files.proofs.Ranges.{HeadRanges, RowRanges}
use Rattle.files.proofs.Laws.{accepted-head, accepted-few, accepted-sound, accepted-ranges, accepted-count}
use Rattle.duties.proofs.Laws.{baseline-most, duties-level, duties-sized, bids-apart}
use Rattle.duties.proofs.Reached.{base-under}
use Rattle.settle.specs.Settlement.{first_turn}
use Rattle.settle.specs.Answer.{average_in, limit_in, base_in, duties_in}
use Rattle.settle.specs.Within.{Turn, Within}

pub first-is : (quarter n : ℕ) → 0 < n → first_turn quarter n ≡ quarter % n
unfolding first_turn
first-is quarter n some = rw (ne_eqb n 0 (omega arith))

pub first-inside : (quarter n : ℕ) → Turn n (first_turn quarter n)
first-inside quarter n some = omega (arith, first-is quarter n some, mod-lt quarter some)

module _ (s k : List ℕ) (n : ℕ) (h : verdict_of s k ≡ Accepted n) where
  head : HeadRanges (head_at s)
  head = accepted-head s k n h

  pub rows-ranged : Below (row_count s) (λ i. RowRanges (terms_of s) (counting_row s k i))
  rows-ranged i l = accepted-ranges s k n h i (omega (arith, accepted-count s k n h))

  limits : Below (row_count s) (λ i. limit_in s k i ≤ 250000)
  limits i l = baseline-most (terms_of s) (accepted-sound s k n h) (counting_row s k i) (rows-ranged i l)

  bases : Below (row_count s) (λ i. base_in s k i ≤ 250000)
  unfolding average_in
  bases i l =
      omega (
        arith,
        limits i l,
        base-under (terms_of s) (head_at s).need.0 (row_count s) (counting_row s k) rows-ranged (counting_row s k i).capacity,
      )

  pub duties-within : Within (row_count s) (duties_in s k)
  unfolding duties_in
  duties-within =
      let t = terms_of s in
      let tariff = (head_at s).tariff.0 in
      let sound = accepted-sound s k n h in
      let sized =
      duties-sized (limit_in s k) (base_in s k) tariff (row_count s) (counting_row s k) t sound head.tariff_high rows-ranged limits bases in
      record {
        few = omega (arith, accepted-few s k n h, accepted-count s k n h);
        level = duties-level (limit_in s k) (base_in s k) tariff (row_count s) (counting_row s k);
        narrow1 = sized.widths1;
        narrow2 = sized.widths2;
        delivered = sized.energies;
        light = λ i. omega (arith, sized.weights i);
        covered = λ i. omega (arith, sized.caps i);
        low1 = sized.bids1;
        low2 = sized.bids2;
        credited1 = sized.credits1;
        credited2 = sized.credits2;
        apart =
            bids-apart (limit_in s k) (base_in s k) tariff (row_count s) (counting_row s k) t sound head.tariff_high rows-ranged limits bases;
      }
