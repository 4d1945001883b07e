-- The stage of compensations and penalties, row by row, as its proof asks for it.
--   four           a cell of at most four bytes fits 32 bits
--   Sofar          how far the stage has come before row i
--   sofar-none, sofar-more, sofar-all     its start, one row more, its end
--   line-there, pay-there, owed-there, sofar-long    the next row's line and its cells are there; the sheet keeps its length
--   total-fits, penalties-fit             both totals fit
use Prim.Native.Nat.{ℕ, ◌+◌, ◌*◌, ◌^◌, ◌≤◌, ◌<◌}
use mathlib.Core.Path.{◌≡◌, refl, sym, ap, ◌∙◌}
use mathlib.Core.List.{List}
use native.Mathlib.Nat.{pow-le-pow_right}
use native.Mathlib.Omega.{arith}
use lib.Dec.{lit<}
use lib.ListN.{length}
use Rattle.columns.specs.Sum.{sum_to}
use Rattle.columns.specs.Table.{table}
use Rattle.columns.proofs.Sum.{sum-next}
use Rattle.columns.proofs.Table.{table_at, table-length}
use Rattle.columns.proofs.Whole.{whole-table}
use Rattle.records.specs.Sheet.{Lined, cell_at, cell, with_cell, with_cells}
use Rattle.records.proofs.Sheet.{cells-length, cell-later}
use Rattle.units.specs.declared.Fen.{Fen}
use Rattle.statement.specs.Statement.{line_start}
use Rattle.statement.specs.Line as line
use Rattle.settle.specs.declared.market.Accounts.{Accounts}
use Rattle.settle.specs.Work.{line_field, Pricing, paying, owing, priced_at, Accountable, Accounted}
use Rattle.settle.proofs.LineByLine.{WrittenTo, written_none, written-one-room, written-two-room, written_next, written_all}

pub four : (x w : ℕ) → x < 256 ^ w → w ≤ 4 → x < 2 ^ 32
four x w h l = omega (arith, pow-le-pow_right {n = 256} (lit< tt) l)

-- the columns of the figures of n rows
abbrev figures : Pricing → ℕ → ℕ → ℕ → List ℕ → List ℕ
figures g n p1 p2 s = table n (priced_at g p1 p2 s)

-- before row i: the rows passed have both figures, and the totals are theirs
pub record Sofar (n p1 p2 : ℕ) (s₀ s : List ℕ) (total penalties i : ℕ) : Type 0 where
  pub written : WrittenTo line.pay line.owed (figures paying n p1 p2 s₀) (figures owing n p1 p2 s₀) s₀ s i
  pub total_is : total ≡ sum_to i (priced_at paying p1 p2 s₀)
  pub total_small : total ≤ i * 100000000
  pub penalties_are : penalties ≡ sum_to i (priced_at owing p1 p2 s₀)
  pub penalties_small : penalties ≤ i * 100000000

module _ (n p1 p2 : ℕ) (s₀ : List ℕ) (asked : Accountable n p1 p2 s₀) where
  -- the columns of both figures
  abbrev pays : List ℕ
  pays = figures paying n p1 p2 s₀

  abbrev owes : List ℕ
  owes = figures owing n p1 p2 s₀

  count : (g : Pricing) → length (figures g n p1 p2 s₀) ≡ n
  count g = table-length n (priced_at g p1 p2 s₀)

  pay_lined : Lined line.pay (length pays) s₀
  pay_lined = rw (count paying) asked.pay_lined

  owed_lined : Lined line.owed (length owes) s₀
  owed_lined = rw (count owing) asked.owed_lined

  pub sofar-none : Sofar n p1 p2 s₀ s₀ 0 0 0
  unfolding sum_to
  sofar-none =
      record {
        written =
            written_none line.pay line.owed pays owes s₀ (count owing ∙ sym (count paying));
        total_is = refl;
        total_small = omega arith;
        penalties_are = refl;
        penalties_small = omega arith;
      }

  module _ (s : List ℕ) (total penalties i : ℕ) (sofar : Sofar n p1 p2 s₀ s total penalties i) where
    pub sofar-long : length s ≡ length s₀
    sofar-long = sofar.written.long

    module _ (l : i < n) where
      inside : i < length pays
      inside = omega (arith, count paying)

      pub line-there : line_start (i + 1) ≤ length s
      line-there = omega (arith, sofar-long, asked.pay_lined.room)

      pub pay-there : cell_at line.pay i + 8 ≤ length s
      pay-there =
          written-one-room line.pay line.owed pays owes s₀ s i sofar.written pay_lined inside

      pub owed-there : (x : ℕ) (t : List ℕ) → t ≡ with_cell line.pay i x s → cell_at line.owed i + 8 ≤ length t
      owed-there x t put-pay =
          written-two-room line.pay line.owed pays owes s₀ s i sofar.written pay_lined inside x t
          put-pay owed_lined

      -- what was put into the lines before is not seen in this one
      later : (j : ℕ) → cell (line_field j) s i ≡ cell (line_field j) s₀ i
      later j =
          let t = with_cells line.pay i pays s₀ in
          let t-long : length t ≡ length s₀ = cells-length line.pay n i pays s₀ asked.pay_lined (omega arith) in
          ap (λ (x : List ℕ). cell (line_field j) x i) sofar.written.is
          ∙ cell-later line.owed (line_field j) n owes t i i refl refl
          (record { inside = asked.owed_lined.inside; room = omega (arith, t-long, asked.owed_lined.room) }) (omega arith) l
          ∙ cell-later line.pay (line_field j) n pays s₀ i i refl refl asked.pay_lined (omega arith) l

      same-figure : (g : Pricing) → priced_at g p1 p2 s i ≡ priced_at g p1 p2 s₀ i
      same-figure g = λ j. g.rule (later 1 j) (later 2 j) (later g.into j) (later g.beside j) p1 p2

      module _ (pay owed : Fen) (pay-is : pay.0 ≡ priced_at paying p1 p2 s i) (owed-is : owed.0 ≡ priced_at owing p1 p2 s i) where
        pub total-fits : total + pay.0 < 2 ^ 64
        total-fits = omega (arith, pay-is, same-figure paying, asked.pay_small i l, sofar.total_small, asked.few)

        pub penalties-fit : penalties + owed.0 < 2 ^ 64
        penalties-fit = omega (arith, owed-is, same-figure owing, asked.owed_small i l, sofar.penalties_small, asked.few)

        pub sofar-more : (t : List ℕ) → t ≡ with_cell line.pay i pay.0 s → (u : List ℕ) → u ≡ with_cell line.owed i owed.0 t
            → (more : ℕ) → more ≡ total + pay.0 → (most : ℕ) → most ≡ penalties + owed.0 → Sofar n p1 p2 s₀ u more most (i + 1)
        sofar-more t put-pay u put-owed more total-now most penalties-now =
            let paid-now = pay-is ∙ same-figure paying in
            let owed-now = owed-is ∙ same-figure owing in
            record {
              written =
                  written_next line.pay line.owed pays owes s₀ s i sofar.written pay_lined inside
                  pay.0 t put-pay owed_lined (record { start = refl; stride = refl })
                  (paid-now ∙ sym (table_at 0 n (priced_at paying p1 p2 s₀) i l)) owed.0
                  (owed-now ∙ sym (table_at 0 n (priced_at owing p1 p2 s₀) i l)) u put-owed;
              total_is = omega (arith, paid-now, sofar.total_is, sum-next i (priced_at paying p1 p2 s₀));
              total_small = omega (arith, paid-now, asked.pay_small i l, sofar.total_small);
              penalties_are = omega (arith, owed-now, sofar.penalties_are, sum-next i (priced_at owing p1 p2 s₀));
              penalties_small = omega (arith, owed-now, asked.owed_small i l, sofar.penalties_small);
            }

    pub sofar-all : n ≤ i → (r : Accounts) → r.total.0 ≡ total → r.penalties.0 ≡ penalties → Accounted n p1 p2 s₀ s r
    sofar-all up r total-told penalties-told =
        let e : i ≡ n = omega (arith, sofar.written.within, count paying) in
        record {
          bytes =
              written_all line.pay line.owed pays owes s₀ s i sofar.written (omega (arith, count paying));
          total =
              total-told ∙ sofar.total_is ∙ ap (λ (m : ℕ). sum_to m (priced_at paying p1 p2 s₀)) e ∙ sym (whole-table n (priced_at paying p1 p2 s₀));
          penalties =
              penalties-told ∙ sofar.penalties_are ∙ ap (λ (m : ℕ). sum_to m (priced_at owing p1 p2 s₀)) e
              ∙ sym (whole-table n (priced_at owing p1 p2 s₀));
        }
