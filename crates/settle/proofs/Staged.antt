-- The stages put together: from lines of duties to lines of figures. Each stage is given by what it leaves in the sheet (specs/Work.antt);
-- the sheet is n lines throughout, and every stage changes one field of each.
--   read, written, ruled     a field of the lines read as a column, a column put into a field, and that its cells are there
--   beside-lined, written-beside     the same of two fields side by side, of which the second becomes 0
--   called1-asked, called1-lines    tier 1: what it asks, and the lines that it leaves; so for the other stages
--   figure-lines        after the last stage the lines are those of the figures
use Prim.Native.Nat.{ℕ, zero, suc, ◌+◌, ◌-◌, ◌^◌, ◌≤◌, ◌<◌}
use mathlib.Core.Path.{◌≡◌, refl, sym, ap, ◌∙◌}
use mathlib.Core.List.{List, [], ◌∷◌}
use native.Mathlib.Omega.{arith}
use lib.ListN.{length, take, set, length-set, replicate, length-replicate}
use Rattle.columns.specs.Sum.{whole}
use Rattle.columns.specs.Table.{at, table}
use Rattle.columns.proofs.Table.{table_at, table-list, table_same}
use Rattle.records.specs.Fields.{span}
use Rattle.records.specs.declared.Field.{Field}
use Rattle.records.specs.Sheet.{Lined, cell, column_of, with_column}
use Rattle.records.proofs.Sheet.{sheet-of, sheet-with, sheet-same, sheet-cell-of, sheet-length}
use Rattle.duties.specs.Duties.{Duties}
use Rattle.merit.specs.Band.{Apart}
use Rattle.merit.specs.OneTier.{tier_calls}
use Rattle.merit.specs.Price.{price}
use Rattle.merit.proofs.Apart.{calls-one, calls-two, uncovered-tiers}
use Rattle.pay.specs.Pay.{compensation, penalty}
use Rattle.levy.specs.Rounds.{Standing, final, visits, payments, shortfall, to_cut, to_return, cuts, returned}
use Rattle.levy.specs.declared.Rest.{Rest}
use Rattle.levy.specs.declared.Left.{Left}
use Rattle.levy.proofs.Arrays.{zeros-at}
use Rattle.share.specs.Share.{share, shares}
use Rattle.share.proofs.Laws.{share-le-amount}
use Rattle.statement.specs.Statement.{letter_l, line_widths, head_size, line_size, line_start}
use Rattle.statement.specs.Line as line
use Rattle.settle.specs.Settlement.{bands_of, compensations_of, penalties_of, Figures, levied, figures}
use Rattle.settle.specs.Statement.{line_of}
use Rattle.settle.specs.Within.{Turn, Within}
use Rattle.settle.specs.Work.{lined, line_field, Ruled, tier_one, tier_two, Offered, calls_in, Called, Pricing, paying, owing, priced_at, Accountable, Accounted}
use Rattle.settle.specs.Work.{Leviable, standing_in, Levied, cutting, returning, Shareable, shared_out, divided_to, Divisible}
use Rattle.settle.specs.declared.market.Accounts.{Accounts}
use Rattle.settle.specs.declared.market.Cleared.{Cleared}
use Rattle.settle.proofs.LineByLine.{both, former, latter, side_by_side}
use Rattle.settle.proofs.Sizes.{Sized, Long, figures-long, figures-sized}

-- ---- n lines in a buffer with room for them

module _ (n : ℕ) (out : List ℕ) (room : line_start n ≤ length out) where
  module _ (g : ℕ → List ℕ) (full : (i : ℕ) → length (g i) ≡ 11) where
    pub lines_long : length (lined out n g) ≡ length out
    lines_long = sheet-length head_size letter_l line_widths out n g full room

    module _ (j : ℕ) (known : j < 11) (xs : List ℕ) (long : length xs ≡ n) where
      -- a field is read as the column that stands in it
      pub read : ((i : ℕ) → at (g i) j ≡ at xs i) → ((i : ℕ) → at xs i < 256 ^ at line_widths j) → column_of (line_field j) n (lined out n g) ≡ xs
      read is fits =
          sheet-of head_size letter_l line_widths out n g j full known (omega arith) (λ i l. rw (is i) (fits i))
          ∙ table_same n (λ i. at (g i) j) (at xs) (λ i l. is i) ∙ ap (λ (m : ℕ). table m (at xs)) (sym long) ∙ sym (table-list 0 xs)

      -- a column put into a field is that field of every line
      pub written : with_column (line_field j) xs (lined out n g) ≡ lined out n (λ i. set (g i) j (at xs i))
      written = sheet-with head_size letter_l line_widths out n g j xs full known (omega arith) long

    -- a field's cells lie inside the lines
    pub ruled : (j : ℕ) → 2 + span (take j line_widths) + at line_widths j ≤ line_size → at line_widths j ≤ 4 → Ruled n (line_field j) (lined out n g)
    ruled j inside narrow =
        record { lined = record { inside = inside; room = omega (arith, lines_long, room) }; narrow = narrow }

    -- the cells of two fields side by side lie inside the lines
    pub beside-lined : (both : Field) → both.start ≡ head_size → both.stride ≡ line_size → both.offset + both.width ≤ line_size
        → Lined both n (lined out n g)
    beside-lined both start stride inside =
        record { inside = omega (arith, stride); room = rw (start, stride) (omega (arith, lines_long, room)) }

    -- a column put into fields j and j + 1 as one of eight bytes at offset o is the former in every line, and the latter is 0
    pub written-beside : (j o : ℕ) → j + 1 < 11 → line_field j ≡ former head_size line_size o → line_field (j + 1) ≡ latter head_size line_size o
        → o + 8 ≤ line_size → (xs : List ℕ) → length xs ≡ n → ((i : ℕ) → at xs i < 2 ^ 32)
        → with_column (both head_size line_size o) xs (lined out n g) ≡ lined out n (λ i. set (set (g i) j (at xs i)) (j + 1) 0)
    written-beside j o known one two inside xs long small =
        let zs : List ℕ = replicate n 0 in
        side_by_side head_size line_size o xs zs (lined out n g) (rw long (beside-lined (both head_size line_size o) refl refl inside))
        (length-replicate n 0 ∙ sym long) small (zeros-at n)
        ∙ sym (λ k. with_column (two k) zs (with_column (one k) xs (lined out n g)))
        ∙ ap (with_column (line_field (j + 1)) zs) (written j (omega arith) xs long)
        ∙ sheet-with head_size letter_l line_widths out n (λ i. set (g i) j (at xs i)) (j + 1) zs
        (λ i. length-set (g i) j (at xs i) ∙ full i) known (omega arith) (length-replicate n 0)
        ∙ sheet-same head_size letter_l line_widths out n (λ i. set (set (g i) j (at xs i)) (j + 1) (at zs i))
        (λ i. set (set (g i) j (at xs i)) (j + 1) 0) (λ i l. ap (set (set (g i) j (at xs i)) (j + 1)) (zeros-at n i))

-- ---- the stages, of any columns within sizes

module _ (n : ℕ) (d : Duties) (within : Within n d) (need first : ℕ) (turn : Turn n first) (id : ℕ → ℕ) (out : List ℕ)
    (room : line_start n ≤ length out) where
  abbrev f : Figures
  f = figures need first d

  sized : Sized need n f
  sized = figures-sized need first n d within

  long : Long n f
  long = figures-long need first n d within.level

  -- the lines before the market, and after each stage
  abbrev pub lines0 : ℕ → List ℕ
  lines0 i =
      id i ∷ at d.widths1 i ∷ at d.widths2 i ∷ at d.energies1 i ∷ at d.energies2 i ∷ at d.weights i ∷ at d.caps i
      ∷ at d.bids2 i ∷ at d.bids1 i ∷ at d.credits1 i ∷ at d.credits2 i ∷ []

  abbrev pub lines1 : ℕ → List ℕ
  lines1 i = set (lines0 i) 1 (at f.called1 i)

  abbrev pub lines2 : ℕ → List ℕ
  lines2 i = set (lines1 i) 2 (at f.called2 i)

  abbrev pub lines3 : ℕ → List ℕ
  lines3 i = set (set (lines2 i) 3 (at f.compensations i)) 4 0

  abbrev pub lines4 : ℕ → List ℕ
  lines4 i = set (set (lines3 i) 9 (at f.penalties i)) 10 0

  abbrev pub lines5 : ℕ → List ℕ
  lines5 i = set (set (lines4 i) 7 (at f.paid i)) 8 (at f.closing i)

  abbrev pub lines6 : ℕ → List ℕ
  lines6 i = set (lines5 i) 4 (at f.cuts i)

  abbrev pub lines7 : ℕ → List ℕ
  lines7 i = set (lines6 i) 10 (at f.returned i)

  -- no tier 1 bid is above a tier 2 bid
  apart : Apart (bands_of d)
  apart = record { rising = within.apart; level = within.level.widths2 ∙ sym within.level.widths1 }

  -- ---- tier 1

  widths1-read : column_of line.called1 n (lined out n lines0) ≡ d.widths1
  widths1-read =
      read n out room lines0 (λ i. refl) 1 (omega arith) d.widths1 within.level.widths1 (λ i. refl) (λ i. omega (arith, within.narrow1 i))

  bids1-read : column_of line.closing n (lined out n lines0) ≡ d.bids1
  bids1-read =
      read n out room lines0 (λ i. refl) 8 (omega arith) d.bids1 within.level.bids1 (λ i. refl) (λ i. omega (arith, within.low1 i))

  energies1-read : column_of line.compensation n (lined out n lines0) ≡ d.energies1
  energies1-read =
      read n out room lines0 (λ i. refl) 3 (omega arith) d.energies1 within.level.energies1 (λ i. refl) (λ i. omega (arith, within.delivered i))

  pub called1-asked : Offered n first tier_one (lined out n lines0)
  called1-asked =
      record {
        few = within.few;
        turn = turn;
        widths = ruled n out room lines0 (λ i. refl) 1 (omega arith) (omega arith);
        bids = ruled n out room lines0 (λ i. refl) 8 (omega arith) (omega arith);
        energies = ruled n out room lines0 (λ i. refl) 3 (omega arith) (omega arith);
        narrow = λ i. rw widths1-read (within.narrow1 i);
        low = λ i. rw bids1-read (omega (arith, within.low1 i));
      }

  module _ (t : List ℕ) (r : Cleared) (now : Called need first n tier_one (lined out n lines0) t r) where
    calls1 : calls_in need first n tier_one (lined out n lines0) ≡ f.called1
    unfolding figures
    calls1 =
        ap (λ (ws : List ℕ). tier_calls need ws (column_of line.closing n (lined out n lines0)) first) widths1-read
        ∙ ap (λ (bs : List ℕ). tier_calls need d.widths1 bs first) bids1-read ∙ sym (calls-one (bands_of d) apart need first)

    pub called1-lines : t ≡ lined out n lines1
    called1-lines =
        now.bytes ∙ ap (λ (xs : List ℕ). with_column line.called1 xs (lined out n lines0)) calls1
        ∙ written n out room lines0 (λ i. refl) 1 (omega arith) f.called1 long.called1

    pub called1-left : r.left.0 ≡ need - whole d.widths1
    called1-left = now.left ∙ ap (λ (ws : List ℕ). need - whole ws) widths1-read

    pub called1-price : r.price.0 ≡ f.price1
    unfolding figures
    called1-price = now.price ∙ (λ j. price (bids1-read j) (calls1 j) (energies1-read j))

  -- ---- tier 2

  widths2-read : column_of line.called2 n (lined out n lines1) ≡ d.widths2
  widths2-read =
      read n out room lines1 (λ i. refl) 2 (omega arith) d.widths2 within.level.widths2 (λ i. refl) (λ i. omega (arith, within.narrow2 i))

  bids2-read : column_of line.paid n (lined out n lines1) ≡ d.bids2
  bids2-read =
      read n out room lines1 (λ i. refl) 7 (omega arith) d.bids2 within.level.bids2 (λ i. refl) (λ i. omega (arith, within.low2 i))

  energies2-read : column_of line.cut n (lined out n lines1) ≡ d.energies2
  energies2-read =
      read n out room lines1 (λ i. refl) 4 (omega arith) d.energies2 within.level.energies2 (λ i. refl) (λ i. omega (arith, within.delivered i))

  pub called2-asked : Offered n first tier_two (lined out n lines1)
  called2-asked =
      record {
        few = within.few;
        turn = turn;
        widths = ruled n out room lines1 (λ i. refl) 2 (omega arith) (omega arith);
        bids = ruled n out room lines1 (λ i. refl) 7 (omega arith) (omega arith);
        energies = ruled n out room lines1 (λ i. refl) 4 (omega arith) (omega arith);
        narrow = λ i. rw widths2-read (within.narrow2 i);
        low = λ i. rw bids2-read (omega (arith, within.low2 i));
      }

  module _ (left : ℕ) (is : left ≡ need - whole d.widths1) (t : List ℕ) (r : Cleared)
      (now : Called left first n tier_two (lined out n lines1) t r) where
    calls2 : calls_in left first n tier_two (lined out n lines1) ≡ f.called2
    unfolding figures
    calls2 =
        ap (λ (m : ℕ). calls_in m first n tier_two (lined out n lines1)) is
        ∙ ap (λ (ws : List ℕ). tier_calls (need - whole d.widths1) ws (column_of line.paid n (lined out n lines1)) first) widths2-read
        ∙ ap (λ (bs : List ℕ). tier_calls (need - whole d.widths1) d.widths2 bs first) bids2-read
        ∙ sym (calls-two (bands_of d) apart need first)

    pub called2-lines : t ≡ lined out n lines2
    called2-lines =
        now.bytes ∙ ap (λ (xs : List ℕ). with_column line.called2 xs (lined out n lines1)) calls2
        ∙ written n out room lines1 (λ i. refl) 2 (omega arith) f.called2 long.called2

    pub called2-left : r.left.0 ≡ f.uncovered
    unfolding figures
    called2-left =
        now.left ∙ ap (λ (ws : List ℕ). left - whole ws) widths2-read ∙ ap (λ (m : ℕ). m - whole d.widths2) is
        ∙ sym (uncovered-tiers need (bands_of d))

    pub called2-price : r.price.0 ≡ f.price2
    unfolding figures
    called2-price = now.price ∙ (λ j. price (bids2-read j) (calls2 j) (energies2-read j))

  -- ---- compensations and penalties

  -- lines in which calls stand, and energies in the fields of a rule: the rule's figures are those of the column xs
  module _ (g : Pricing) (energies1 energies2 : List ℕ) (known1 : g.into < 11) (known2 : g.beside < 11)
      (is1 : (i : ℕ) → at (lines2 i) g.into ≡ at energies1 i) (fits1 : (i : ℕ) → at energies1 i < 256 ^ at line_widths g.into)
      (is2 : (i : ℕ) → at (lines2 i) g.beside ≡ at energies2 i) (fits2 : (i : ℕ) → at energies2 i < 256 ^ at line_widths g.beside)
      (xs : List ℕ)
      (made : (i : ℕ) → i < n
      → at xs i ≡ g.rule (at f.called1 i) (at f.called2 i) (at energies1 i) (at energies2 i) f.price1 f.price2) where
    -- a cell is the figure that stands there
    stands : (j : ℕ) → j < 11 → (x i : ℕ) → i < n → at (lines2 i) j ≡ x → x < 256 ^ at line_widths j → cell (line_field j) (lined out n lines2) i ≡ x
    stands j known x i l e fits =
        sheet-cell-of head_size letter_l line_widths out n lines2 j (λ k. refl) known (omega arith) i l (rw e fits) ∙ e

    priced-is : (i : ℕ) → i < n → priced_at g f.price1 f.price2 (lined out n lines2) i ≡ at xs i
    priced-is i l =
        let c1 = stands 1 (omega arith) (at f.called1 i) i l refl (omega (arith, sized.called1 i)) in
        let c2 = stands 2 (omega arith) (at f.called2 i) i l refl (omega (arith, sized.called2 i)) in
        let e1 = stands g.into known1 (at energies1 i) i l (is1 i) (fits1 i) in
        let e2 = stands g.beside known2 (at energies2 i) i l (is2 i) (fits2 i) in
        (λ j. g.rule (c1 j) (c2 j) (e1 j) (e2 j) f.price1 f.price2) ∙ sym (made i l)

  priced-all : (g : Pricing) (xs : List ℕ) → length xs ≡ n
      → ((i : ℕ) → i < n → priced_at g f.price1 f.price2 (lined out n lines2) i ≡ at xs i)
      → table n (priced_at g f.price1 f.price2 (lined out n lines2)) ≡ xs
  priced-all g xs long-x each =
      table_same n (priced_at g f.price1 f.price2 (lined out n lines2)) (at xs) each ∙ ap (λ (m : ℕ). table m (at xs)) (sym long-x)
      ∙ sym (table-list 0 xs)

  pay-made : (i : ℕ) → i < n
      → at f.compensations i
      ≡ compensation (at f.called1 i) (at f.called2 i) (at d.energies1 i) (at d.energies2 i) f.price1 f.price2
  pay-made i l = unfold figures compensations_of in table_at 0 (length d.widths1) _ i (omega (arith, within.level.widths1))

  owed-made : (i : ℕ) → i < n
      → at f.penalties i ≡ penalty (at f.called1 i) (at f.called2 i) (at d.credits1 i) (at d.credits2 i) f.price1 f.price2
  owed-made i l = unfold figures penalties_of in table_at 0 (length d.widths1) _ i (omega (arith, within.level.widths1))

  pay-is : (i : ℕ) → i < n → priced_at paying f.price1 f.price2 (lined out n lines2) i ≡ at f.compensations i
  pay-is =
      priced-is paying d.energies1 d.energies2 (omega arith) (omega arith) (λ i. refl) (λ i. omega (arith, within.delivered i)) (λ i. refl)
      (λ i. omega (arith, within.delivered i)) f.compensations pay-made

  owed-is : (i : ℕ) → i < n → priced_at owing f.price1 f.price2 (lined out n lines2) i ≡ at f.penalties i
  owed-is =
      priced-is owing d.credits1 d.credits2 (omega arith) (omega arith) (λ i. refl) (λ i. omega (arith, within.credited1 i)) (λ i. refl)
      (λ i. omega (arith, within.credited2 i)) f.penalties owed-made

  pub account-asked : Accountable n f.price1 f.price2 (lined out n lines2)
  account-asked =
      record {
        few = within.few;
        pay_lined = beside-lined n out room lines2 (λ i. refl) line.pay refl refl (omega arith);
        owed_lined = beside-lined n out room lines2 (λ i. refl) line.owed refl refl (omega arith);
        low1 = sized.price1;
        low2 = sized.price2;
        pay_small = λ i l. omega (arith, pay-is i l, sized.compensations i);
        owed_small = λ i l. omega (arith, owed-is i l, sized.penalties i);
      }

  pub paid-total : whole f.compensations ≡ f.total
  unfolding figures
  paid-total = refl

  module _ (t : List ℕ) (r : Accounts) (now : Accounted n f.price1 f.price2 (lined out n lines2) t r) where
    pays : table n (priced_at paying f.price1 f.price2 (lined out n lines2)) ≡ f.compensations
    pays = priced-all paying f.compensations long.compensations pay-is

    owes : table n (priced_at owing f.price1 f.price2 (lined out n lines2)) ≡ f.penalties
    owes = priced-all owing f.penalties long.penalties owed-is

    -- both columns in their fields, with 0 behind them
    pay-put : with_column line.pay f.compensations (lined out n lines2) ≡ lined out n lines3
    pay-put =
        written-beside n out room lines2 (λ i. refl) 3 12 (omega arith) refl refl (omega arith) f.compensations long.compensations
        (λ i. omega (arith, sized.compensations i))

    owed-put : with_column line.owed f.penalties (lined out n lines3) ≡ lined out n lines4
    owed-put =
        written-beside n out room lines3 (λ i. refl) 9 34 (omega arith) refl refl (omega arith) f.penalties long.penalties
        (λ i. omega (arith, sized.penalties i))

    pub account-lines : t ≡ lined out n lines4
    account-lines =
        now.bytes ∙ (λ j. with_column line.owed (owes j) (with_column line.pay (pays j) (lined out n lines2)))
        ∙ ap (with_column line.owed f.penalties) pay-put ∙ owed-put

    pub account-total : r.total.0 ≡ f.total
    account-total = now.total ∙ ap whole pays ∙ paid-total

    pub account-penalties : r.penalties.0 ≡ whole f.penalties
    account-penalties = now.penalties ∙ ap whole owes

  -- ---- rounds and payments

  weights-read : column_of line.weight n (lined out n lines4) ≡ d.weights
  weights-read =
      read n out room lines4 (λ i. refl) 5 (omega arith) d.weights within.level.weights (λ i. refl) (λ i. omega (arith, within.light i))

  caps-read : column_of line.cap n (lined out n lines4) ≡ d.caps
  caps-read =
      read n out room lines4 (λ i. refl) 6 (omega arith) d.caps within.level.caps (λ i. refl) (λ i. omega (arith, within.covered i))

  pub levied-asked : Leviable n first f.total (lined out n lines4)
  levied-asked =
      record {
        few = within.few;
        turn = turn;
        weights = ruled n out room lines4 (λ i. refl) 5 (omega arith) (omega arith);
        caps = ruled n out room lines4 (λ i. refl) 6 (omega arith) (omega arith);
        paid = ruled n out room lines4 (λ i. refl) 7 (omega arith) (omega arith);
        closing = ruled n out room lines4 (λ i. refl) 8 (omega arith) (omega arith);
        rich = sized.total;
        light = λ i. rw weights-read (within.light i);
        low = λ i. rw caps-read (within.covered i);
      }

  module _ (t : List ℕ) (r : Rest) (now : Levied n first f.total (lined out n lines4) t r) where
    ends : standing_in f.total n (lined out n lines4) ≡ final f.total d.weights d.caps
    ends =
        ap (λ (ws : List ℕ). final f.total ws (column_of line.cap n (lined out n lines4))) weights-read
        ∙ ap (final f.total d.weights) caps-read

    closings : (standing_in f.total n (lined out n lines4)).marks ≡ f.closing
    unfolding figures levied
    closings = ap (λ (st : Standing). st.marks) ends

    payings : payments (column_of line.weight n (lined out n lines4)) (column_of line.cap n (lined out n lines4)) (standing_in f.total n (lined out n lines4)) first
        ≡ f.paid
    unfolding figures levied
    payings = λ j. payments (weights-read j) (caps-read j) (ends j) first

    pub levied-lines : t ≡ lined out n lines5
    levied-lines =
        now.bytes
        ∙ (λ j. with_column line.closing (closings j) (with_column line.paid (payings j) (lined out n lines4)))
        ∙ ap (with_column line.closing f.closing) (written n out room lines4 (λ i. refl) 7 (omega arith) f.paid long.paid)
        ∙ written n out room (λ i. set (lines4 i) 7 (at f.paid i)) (λ i. refl) 8 (omega arith) f.closing long.closing

    pub levied-rounds : r.rounds ≡ f.rounds
    unfolding figures levied
    levied-rounds = now.rounds ∙ ap (λ (st : Standing). st.rounds) ends

    pub levied-visits : r.visits ≡ f.visits
    unfolding figures
    levied-visits = now.visits ∙ (λ j. visits f.total (weights-read j) (caps-read j))

    pub levied-short : (x : ℕ) (marks : List ℕ)
        → x ≡ shortfall (record { marks = marks; money = r.money.0; weight = r.weight; rounds = r.rounds }) → x ≡ f.shortfall
    unfolding figures levied shortfall
    levied-short x marks e =
        e ∙ rw (now.money ∙ ap (λ (st : Standing). st.money) ends, now.weight ∙ ap (λ (st : Standing). st.weight) ends)

  -- ---- cuts and what is returned

  -- what penalties leave of the shortfall, and what it leaves of them
  abbrev short : ℕ
  short = to_cut (whole f.penalties) f.shortfall

  abbrev over : ℕ
  over = to_return (whole f.penalties) f.shortfall

  abbrev pub left : Left
  left = record { cut = record { 0 = short }; returned = record { 0 = over } }

  pays-read : column_of line.compensation n (lined out n lines5) ≡ f.compensations
  pays-read =
      read n out room lines5 (λ i. refl) 3 (omega arith) f.compensations long.compensations (λ i. refl) (λ i. omega (arith, sized.compensations i))

  -- of nothing every share is 0
  none-shared : (ps : List ℕ) (amount i : ℕ) → amount ≡ 0 → i < length ps → at (shares amount ps first) i ≡ 0
  unfolding shares
  none-shared ps amount i e l = omega (arith, table_at 0 (length ps) (share amount ps first) i l, share-le-amount amount ps first i)

  cut-lines : shared_out n first (cutting left) (lined out n lines5) ≡ lined out n lines6
  unfolding figures cuts levied
  cut-lines =
      ap (λ (ps : List ℕ). with_column line.cut (shares short ps first) (lined out n lines5)) pays-read
      ∙ written n out room lines5 (λ i. refl) 4 (omega arith) f.cuts long.cuts

  cut-asked : Shareable n first (cutting left) (lined out n lines5)
  cut-asked =
      record {
        few = within.few;
        turn = turn;
        sums = ruled n out room lines5 (λ i. refl) 3 (omega arith) (omega arith);
        parts = ruled n out room lines5 (λ i. refl) 4 (omega arith) (omega arith);
        covered = rw pays-read (omega (arith, paid-total, sized.shortfall));
        idle =
            λ e. sheet-same head_size letter_l line_widths out n lines5 lines6 (λ i l. ap (set (lines5 i) 4) (sym (none e i l))) ∙ sym cut-lines;
      }
    where
      none : short ≡ 0 → (i : ℕ) → i < n → at f.cuts i ≡ 0
      none e i l = unfold figures cuts levied in none-shared f.compensations short i e (omega (arith, long.compensations))

  owed-read : column_of line.penalty n (lined out n lines6) ≡ f.penalties
  owed-read =
      read n out room lines6 (λ i. refl) 9 (omega arith) f.penalties long.penalties (λ i. refl) (λ i. omega (arith, sized.penalties i))

  return-lines : shared_out n first (returning left) (lined out n lines6) ≡ lined out n lines7
  unfolding figures returned levied
  return-lines =
      ap (λ (ps : List ℕ). with_column line.returned (shares over ps first) (lined out n lines6)) owed-read
      ∙ written n out room lines6 (λ i. refl) 10 (omega arith) f.returned long.returned

  return-asked : Shareable n first (returning left) (lined out n lines6)
  return-asked =
      record {
        few = within.few;
        turn = turn;
        sums = ruled n out room lines6 (λ i. refl) 9 (omega arith) (omega arith);
        parts = ruled n out room lines6 (λ i. refl) 10 (omega arith) (omega arith);
        covered = rw owed-read (omega arith);
        idle =
            λ e. sheet-same head_size letter_l line_widths out n lines6 lines7 (λ i l. ap (set (lines6 i) 10) (sym (none e i l))) ∙ sym return-lines;
      }
    where
      none : over ≡ 0 → (i : ℕ) → i < n → at f.returned i ≡ 0
      none e i l = unfold figures returned levied in none-shared f.penalties over i e (omega (arith, long.penalties))

  -- both
  pub divide-asked : Divisible n first left (lined out n lines5)
  unfolding divided_to
  divide-asked zero l = cut-asked
  divide-asked (suc zero) l = rw cut-lines return-asked
  divide-asked (suc (suc k)) l = absurd (omega arith)

  pub divided-lines : divided_to 2 n first left (lined out n lines5) ≡ lined out n lines7
  unfolding divided_to
  divided-lines = ap (shared_out n first (returning left)) cut-lines ∙ return-lines

  -- after the last stage the lines are those of the figures
  pub figure-lines : (i : ℕ) → lines7 i ≡ line_of (id i) f i
  unfolding figures
  figure-lines i = refl
