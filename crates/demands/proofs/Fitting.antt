-- The statement of an accepted pair of files: each field of its head and of its lines fits its width.
--   accepted-long, accepted-sized      lengths and sizes of the figures
--   accepted-terms-fit     the terms that a file states
--   accepted-head-fits, accepted-figure-fits     each field of the head, and each figure of a line, whatever the file's numbers are
--   id-fits            a row's id, of a file made of bytes
use Prim.Native.Nat.{ℕ, zero, suc, ◌^◌, ◌<◌}
use mathlib.Core.Path.{◌≡◌}
use mathlib.Core.List.{List}
use native.Mathlib.Omega.{arith}
use Rattle.columns.specs.Table.{at}
use Rattle.records.specs.Record.{Fits}
use Rattle.records.proofs.Record.{record-fits}
use Rattle.files.specs.Layout.{row_widths, head_at, row_at, row_count}
use Rattle.files.specs.Form.{terms_widths, terms_fields, terms_of, row_start}
use Rattle.files.specs.Order.{verdict_of}
use Rattle.files.specs.Counting.{counting_row}
use Rattle.files.specs.Verdict.{Accepted}
use Rattle.files.proofs.Ranges.{HeadRanges}
use Rattle.files.proofs.Laws.{accepted-head, accepted-sound, counting-id}
use Rattle.columns.proofs.Sum.{bit_le}
use Rattle.duties.proofs.Laws.{duties-level}
use Rattle.statement.specs.Statement.{line_widths}
use Rattle.statement.proofs.Laws.{HeadFits}
use Rattle.settle.specs.Statement.{statement_head, line_of}
use Rattle.settle.specs.Answer.{average_in, limit_in, base_in, duties_in, figures_of, top_of}
use Rattle.settle.proofs.Sizes.{Sized, Long, figures-long, figures-sized}
use Rattle.settle.proofs.Accepted.{duties-within}
use Rattle.demands.specs.Promise.{Bytes}

pub accepted-long : (s k : List ℕ) → Long (row_count s) (figures_of s k)
unfolding figures_of duties_in
accepted-long s k =
    figures-long (head_at s).need.0 _ (row_count s) (duties_in s k)
    (duties-level (limit_in s k) (base_in s k) (head_at s).tariff.0 (row_count s) (counting_row s k))

module _ (s k : List ℕ) (n : ℕ) (h : verdict_of s k ≡ Accepted n) where
  head : HeadRanges (head_at s)
  head = accepted-head s k n h

  pub accepted-sized : Sized (head_at s).need.0 (row_count s) (figures_of s k)
  unfolding figures_of
  accepted-sized = figures-sized (head_at s).need.0 _ (row_count s) (duties_in s k) (duties-within s k n h)

  pub accepted-head-fits : HeadFits (top_of s k)
  unfolding top_of statement_head
  accepted-head-fits =
      let f = accepted-sized in
      record {
        front = (
          omega (arith, head.day),
          (
            omega (arith, head.quarter),
            (
              omega (arith, f.price1),
              (
                omega (arith, f.price2),
                (
                  omega (arith, f.total),
                  (
                    omega (arith, f.total, f.shortfall),
                    (omega (arith, f.rounds, head.rows), (omega (arith, f.uncovered, head.need), (omega (arith, head.rows), tt))),
                  ),
                ),
              ),
            ),
          ),
        );
        tail = (omega (arith, f.visits), (omega (arith, bit_le (average_in s k).rules), tt));
      }

  pub accepted-terms-fit : Fits terms_widths (terms_fields (terms_of s))
  accepted-terms-fit =
      let t = accepted-sound s k n h in
      (omega (arith, t.below), (omega (arith, t.rising1, t.apart, t.rising2, t.last), (omega (arith, t.apart, t.rising2, t.last), (omega (arith, t.rising2, t.last), (omega (arith, t.last), tt)))))

  pub accepted-figure-fits : (id j i : ℕ) → at (line_of id (figures_of s k) i) (suc j) < 256 ^ at line_widths (suc j)
  accepted-figure-fits id zero i = omega (arith, accepted-sized.called1 i)
  accepted-figure-fits id (suc zero) i = omega (arith, accepted-sized.called2 i)
  accepted-figure-fits id (suc (suc zero)) i = omega (arith, accepted-sized.compensations i)
  accepted-figure-fits id (suc (suc (suc zero))) i = omega (arith, accepted-sized.compensations i, accepted-sized.cuts i)
  accepted-figure-fits id (suc (suc (suc (suc zero)))) i = omega (arith, accepted-sized.weights i)
  accepted-figure-fits id (suc (suc (suc (suc (suc zero))))) i = omega (arith, accepted-sized.caps i)
  accepted-figure-fits id (suc (suc (suc (suc (suc (suc zero)))))) i = omega (arith, accepted-sized.caps i, accepted-sized.paid i)
  accepted-figure-fits id (suc (suc (suc (suc (suc (suc (suc zero))))))) i = omega (arith, head.rows, accepted-sized.rounds, accepted-sized.closing i)
  accepted-figure-fits id (suc (suc (suc (suc (suc (suc (suc (suc zero)))))))) i = omega (arith, accepted-sized.penalties i)
  accepted-figure-fits id (suc (suc (suc (suc (suc (suc (suc (suc (suc zero))))))))) i = omega (arith, accepted-sized.penalties i, accepted-sized.returned i)
  accepted-figure-fits id (suc (suc (suc (suc (suc (suc (suc (suc (suc (suc j)))))))))) i = omega arith

  pub id-fits : Bytes s → (i : ℕ) → (counting_row s k i).id < 65536
  id-fits bytes i = omega (arith, counting-id s k i, low)
    where
      low : (row_at s (row_start s i)).id < 65536
      low = unfold row_at in (record-fits row_widths s (row_start s i) bytes).0
