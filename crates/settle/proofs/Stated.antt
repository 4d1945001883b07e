-- The stages of an accepted pair of files, one after the other as the code runs them: what each asks is there, and at the end the
-- buffer holds the statement's lines. Each lemma takes what the stages before it left.
--   read-lines                      the first stage's lines are those of the columns of duties
--   asked-trade                     both tiers
--   asked-account, asked-levy, asked-divide    compensations and penalties, rounds and payments, cuts and what is returned
--   top-told, lines-told            what the head has to say, and the lines
use Prim.Native.Nat.{ℕ, ◌-◌, ◌≤◌, ◌<◌}
use mathlib.Core.Path.{◌≡◌, sym, ap, ◌∙◌}
use mathlib.Core.List.{List, []}
use native.Mathlib.Omega.{arith}
use lib.ListN.{length}
use Rattle.columns.specs.Sum.{bit, whole}
use Rattle.columns.proofs.Table.{table_at}
use Rattle.records.proofs.Sheet.{sheet-same}
use Rattle.units.specs.declared.Fen.{Fen}
use Rattle.files.specs.Layout.{head_at, row_count}
use Rattle.files.specs.Order.{verdict_of}
use Rattle.files.specs.Counting.{counting_row}
use Rattle.files.specs.declared.Head.{Head}
use Rattle.files.specs.Verdict.{Accepted}
use Rattle.files.proofs.Laws.{accepted-count}
use Rattle.duties.specs.Duty.{duty_of, width1, width2, energy1, energy2, credit1, credit2, weight, cap}
use Rattle.duties.specs.Duties.{Duties, duties_of}
use Rattle.levy.specs.Asked.{Short, Covered}
use Rattle.levy.specs.Rounds.{to_cut, to_return}
use Rattle.levy.specs.declared.Rest.{Rest}
use Rattle.levy.specs.declared.Left.{Left}
use Rattle.statement.specs.Statement.{letter_l, line_widths, head_size, line_start}
use Rattle.statement.specs.declared.StatementHead.{StatementHead}
use Rattle.settle.specs.Settlement.{first_turn, Figures, figures}
use Rattle.settle.specs.Statement.{statement_head, line_of}
use Rattle.settle.specs.Answer.{average_in, limit_in, base_in, duties_in, figures_of, top_of, line_in}
use Rattle.settle.specs.Within.{Turn, Within}
use Rattle.settle.specs.Work.{lined, row_line, tier_one, tier_two, Offered, Called, Tradable, Traded, Accountable, Accounted, Leviable, Levied, divided_to, Divisible}
use Rattle.settle.specs.declared.market.Accounts.{Accounts}
use Rattle.settle.specs.declared.market.Cleared.{Cleared}
use Rattle.settle.specs.declared.market.Market.{Market}
use Rattle.settle.proofs.Accepted.{first-inside, duties-within}
use Rattle.settle.proofs.Staged as stage

module _ (s k : List ℕ) (n : ℕ) (ok : verdict_of s k ≡ Accepted n) (out : List ℕ) (room : line_start n ≤ length out) (h : Head) (is : h ≡ head_at s)
    (first : ℕ) (goes : first ≡ first_turn h.quarter n) (flag : ℕ) (flagged : flag ≡ bit (average_in s k).rules) where
  count : row_count s ≡ n
  count = sym (accepted-count s k n ok)

  abbrev d : Duties
  d = duties_in s k

  abbrev need : ℕ
  need = (head_at s).need.0

  need-is : h.need.0 ≡ need
  need-is = ap (λ (x : Head). x.need.0) is

  turn : Turn n first
  turn = rw goes (first-inside h.quarter n)

  -- the figures by the position that the code has go first are those of the pair
  abbrev f : Figures
  f = figures need first d

  figures-are : f ≡ figures_of s k
  unfolding figures_of
  figures-are =
      ap (λ (x : ℕ). figures need x d) (goes ∙ (λ j. first_turn (is j).quarter (sym count j)))

  within : Within n d
  within = rw count at (duties-within s k n ok)

  abbrev id : ℕ → ℕ
  id i = (counting_row s k i).id

  abbrev L0 : ℕ → List ℕ
  L0 = stage.lines0 n d within need first turn id out room

  -- a row's line is that of the columns
  row-line : (i : ℕ) → i < n → row_line (head_at s).tariff.0 (average_in s k) s k i ≡ L0 i
  unfolding duties_in duties_of duty_of
  row-line i inside =
      let l = limit_in s k in
      let b = base_in s k in
      let r = counting_row s k in
      let m : i < row_count s = omega (arith, count) in
      rw (
        table_at 0 (row_count s) (λ j. width1 (l j) (r j)) i m,
        table_at 0 (row_count s) (λ j. width2 (r j)) i m,
        table_at 0 (row_count s) (λ j. energy1 (b j) (r j)) i m,
        table_at 0 (row_count s) (λ j. energy2 (b j) (r j)) i m,
        table_at 0 (row_count s) (λ j. weight (b j) (r j)) i m,
        table_at 0 (row_count s) (λ j. cap (b j) (head_at s).tariff.0 (r j)) i m,
        table_at 0 (row_count s) (λ j. (r j).bid2.0) i m,
        table_at 0 (row_count s) (λ j. (r j).bid1.0) i m,
        table_at 0 (row_count s) (λ j. credit1 (l j) (b j) (r j)) i m,
        table_at 0 (row_count s) (λ j. credit2 (b j) (r j)) i m,
      )

  module _ (t0 : List ℕ) (read : t0 ≡ lined out n (row_line (head_at s).tariff.0 (average_in s k) s k)) where
    read-lines : t0 ≡ lined out n L0
    read-lines = read ∙ sheet-same head_size letter_l line_widths out n (row_line (head_at s).tariff.0 (average_in s k) s k) L0 row-line

    asked-1 : Offered n first tier_one t0
    asked-1 = rw read-lines (stage.called1-asked n d within need first turn id out room)

    module _ (t1 : List ℕ) (c1 : Cleared) (one : Called h.need.0 first n tier_one t0 t1 c1) where
      called-1 : Called need first n tier_one (lined out n L0) t1 c1
      called-1 = rw (need-is, read-lines) at one

      lines-1 : t1 ≡ lined out n (stage.lines1 n d within need first turn id out room)
      lines-1 = stage.called1-lines n d within need first turn id out room t1 c1 called-1

      price-1 : c1.price.0 ≡ f.price1
      price-1 = stage.called1-price n d within need first turn id out room t1 c1 called-1

      left-1 : c1.left.0 ≡ need - whole d.widths1
      left-1 = stage.called1-left n d within need first turn id out room t1 c1 called-1

      asked-2 : Offered n first tier_two t1
      asked-2 = rw lines-1 (stage.called2-asked n d within need first turn id out room)

      module _ (t2 : List ℕ) (c2 : Cleared) (two : Called c1.left.0 first n tier_two t1 t2 c2) where
        abbrev L1 : ℕ → List ℕ
        L1 = stage.lines1 n d within need first turn id out room

        called-2 : Called c1.left.0 first n tier_two (lined out n L1) t2 c2
        called-2 = rw lines-1 at two

        lines-2 : t2 ≡ lined out n (stage.lines2 n d within need first turn id out room)
        lines-2 = stage.called2-lines n d within need first turn id out room c1.left.0 left-1 t2 c2 called-2

        price-2 : c2.price.0 ≡ f.price2
        price-2 = stage.called2-price n d within need first turn id out room c1.left.0 left-1 t2 c2 called-2

        left-2 : c2.left.0 ≡ f.uncovered
        left-2 = stage.called2-left n d within need first turn id out room c1.left.0 left-1 t2 c2 called-2

        account-asked : Accountable n c1.price.0 c2.price.0 t2
        account-asked = rw (lines-2, price-1, price-2) (stage.account-asked n d within need first turn id out room)

        module _ (t3 : List ℕ) (a : Accounts) (three : Accounted n c1.price.0 c2.price.0 t2 t3 a) where
          abbrev L2 : ℕ → List ℕ
          L2 = stage.lines2 n d within need first turn id out room

          accounted-3 : Accounted n f.price1 f.price2 (lined out n L2) t3 a
          accounted-3 = rw (lines-2, price-1, price-2) at three

          abbrev L4 : ℕ → List ℕ
          L4 = stage.lines4 n d within need first turn id out room

          lines-4 : t3 ≡ lined out n L4
          lines-4 = stage.account-lines n d within need first turn id out room t3 a accounted-3

          total-3 : a.total.0 ≡ f.total
          total-3 = stage.account-total n d within need first turn id out room t3 a accounted-3

          penalties-3 : a.penalties.0 ≡ whole f.penalties
          penalties-3 = stage.account-penalties n d within need first turn id out room t3 a accounted-3

          levy-asked : Leviable n first a.total.0 t3
          levy-asked = rw (lines-4, total-3) (stage.levied-asked n d within need first turn id out room)

          module _ (t5 : List ℕ) (r : Rest) (five : Levied n first a.total.0 t3 t5 r) (x : Fen) (short : Short r x.0) where
            levied-5 : Levied n first f.total (lined out n L4) t5 r
            levied-5 = rw (lines-4, total-3) at five

            abbrev L5 : ℕ → List ℕ
            L5 = stage.lines5 n d within need first turn id out room

            lines-5 : t5 ≡ lined out n L5
            lines-5 = stage.levied-lines n d within need first turn id out room t5 r levied-5

            rounds-5 : r.rounds ≡ f.rounds
            rounds-5 = stage.levied-rounds n d within need first turn id out room t5 r levied-5

            visits-5 : r.visits ≡ f.visits
            visits-5 = stage.levied-visits n d within need first turn id out room t5 r levied-5

            short-5 : x.0 ≡ f.shortfall
            short-5 = stage.levied-short n d within need first turn id out room t5 r levied-5 x.0 [] (short 0 [])

            module _ (left : Left) (covered : Covered a.penalties.0 x.0 left) where
              left-5 : left ≡ stage.left n d within need first turn id out room
              left-5 =
                  λ j. record {
                    cut = record { 0 = (covered.cut ∙ (λ i. to_cut (penalties-3 i) (short-5 i))) j };
                    returned = record { 0 = (covered.returned ∙ (λ i. to_return (penalties-3 i) (short-5 i))) j };
                  }

              divide-asked : Divisible n first left t5
              divide-asked = rw (lines-5, left-5) (stage.divide-asked n d within need first turn id out room)

              module _ (t6 : List ℕ) (six : t6 ≡ divided_to 2 n first left t5) where
                lines-6 : t6 ≡ lined out n (λ i. line_of (id i) f i)
                lines-6 =
                    six ∙ (λ j. divided_to 2 n first (left-5 j) (lines-5 j)) ∙ stage.divided-lines n d within need first turn id out room
                    ∙ sheet-same head_size letter_l line_widths out n (stage.lines7 n d within need first turn id out room) (λ i. line_of (id i) f i)
                    (λ i l. stage.figure-lines n d within need first turn id out room i)

                all_lines : t6 ≡ lined out n (line_in s k)
                unfolding line_in
                all_lines = lines-6 ∙ (λ j. lined out n (λ i. line_of (id i) (figures-are j) i))

                all_told :
                    ◌≡◌ {A = StatementHead}
                    (record {
                      day = h.day;
                      quarter = h.quarter;
                      price1 = c1.price;
                      price2 = c2.price;
                      total = a.total;
                      shortfall = x;
                      rounds = r.rounds;
                      uncovered = c2.left;
                      rows = n;
                      visits = r.visits;
                      averaged = flag;
                    })
                    (top_of s k)
                unfolding top_of statement_head
                all_told =
                    (λ j. record {
                      day = (is j).day;
                      quarter = (is j).quarter;
                      price1 = record { 0 = price-1 j };
                      price2 = record { 0 = price-2 j };
                      total = record { 0 = total-3 j };
                      shortfall = record { 0 = short-5 j };
                      rounds = rounds-5 j;
                      uncovered = record { 0 = left-2 j };
                      rows = n;
                      visits = visits-5 j;
                      averaged = flagged j;
                    })
                    ∙ (λ j. statement_head (head_at s) (sym count j) (average_in s k).rules (figures-are j))

    -- ---- the same by the market that both tiers leave

    pub asked-trade : Tradable h.need.0 first n t0
    asked-trade = record { one = asked-1; two = asked-2 }

    module _ (t2 : List ℕ) (m : Market) (traded : Traded h.need.0 first n t0 t2 m) where
      abbrev t1 : List ℕ
      t1 = traded.between

      pub asked-account : Accountable n m.price1.0 m.price2.0 t2
      asked-account =
          rw (traded.price1, traded.price2) (account-asked t1 traded.one traded.called1 t2 traded.two traded.called2)

      module _ (t3 : List ℕ) (a : Accounts) (three : Accounted n m.price1.0 m.price2.0 t2 t3 a) where
        accounted : Accounted n traded.one.price.0 traded.two.price.0 t2 t3 a
        accounted = rw (traded.price1, traded.price2) at three

        pub asked-levy : Leviable n first a.total.0 t3
        asked-levy = levy-asked t1 traded.one traded.called1 t2 traded.two traded.called2 t3 a accounted

        module _ (t5 : List ℕ) (r : Rest) (five : Levied n first a.total.0 t3 t5 r) (x : Fen) (short : Short r x.0) (left : Left)
            (covered : Covered a.penalties.0 x.0 left) where
          pub asked-divide : Divisible n first left t5
          asked-divide =
              divide-asked t1 traded.one traded.called1 t2 traded.two traded.called2 t3 a accounted t5 r five x short left covered

          module _ (t6 : List ℕ) (six : t6 ≡ divided_to 2 n first left t5) where
            pub lines-told : t6 ≡ lined out n (line_in s k)
            lines-told =
                all_lines t1 traded.one traded.called1 t2 traded.two traded.called2 t3 a accounted t5 r five x short left covered t6 six

            pub top-told :
                ◌≡◌ {A = StatementHead}
                (record {
                  day = h.day;
                  quarter = h.quarter;
                  price1 = m.price1;
                  price2 = m.price2;
                  total = a.total;
                  shortfall = x;
                  rounds = r.rounds;
                  uncovered = m.uncovered;
                  rows = n;
                  visits = r.visits;
                  averaged = flag;
                })
                (top_of s k)
            top-told =
                rw (traded.price1, traded.price2, traded.uncovered)
                (all_told t1 traded.one traded.called1 t2 traded.two traded.called2 t3 a accounted t5 r five x short left covered t6 six)
