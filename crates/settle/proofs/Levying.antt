-- The payers' stages, as their proofs ask for them.
--   payments-asked, levied-on     the rounds over arrays, and the payments after them
--   front-leviable                a front of n numbers
--   weights-asked, caps-asked     weights and caps may be read into fronts of fresh arrays
--   rounds-asked                  the arrays are such as the rounds ask for
--   paid-count, marks-count, paid-asked, marks-asked, counts-level, levied    payments and closing rounds may be put, and what the stage leaves
--   shares-asked, shares-lined, shares_left     an amount over the sums of a field, in lent columns
--   none-shared, front-shareable, share-front, share-there    where there is nothing to share; and in fronts of fresh arrays
--   sharings-are   the sharings of the parts in the order of the code
--   divided-none, divided-asked, divided-more, divided-all    one sharing after the other
use Prim.Native.Nat.{ℕ, zero, suc, ◌+◌, ◌≤◌, ◌<◌}
use mathlib.Core.Path.{◌≡◌, refl, sym, ap, ◌∙◌}
use mathlib.Core.List.{List, [], ◌∷◌, ◌++◌}
use native.Mathlib.Numerals.{add-one}
use native.Mathlib.Omega.{arith}
use lib.ListN.{length, get_or, take, drop, length-append, length-drop}
use lib.Seq.{length-take-le, take_at}
use Rattle.columns.proofs.Table.{table-length}
use Rattle.records.specs.declared.Field.{Field}
use Rattle.records.specs.Sheet.{Lined, cell, column_of, with_column}
use Rattle.share.specs.Share.{shares}
use Rattle.share.proofs.Laws.{shares-length}
use Rattle.levy.specs.Asked.{standing_of, Levyable, Finished, Payable, Apportionable}
use Rattle.levy.specs.Rounds.{Standing, final, visits, payments}
use Rattle.levy.specs.declared.Rest.{Rest}
use Rattle.levy.specs.declared.Left.{Left}
use Rattle.levy.proofs.Arrays.{zeros-at}
use Rattle.levy.proofs.Making.{payable}
use Rattle.levy.proofs.Payment.{payments-length}
use Rattle.statement.specs.Line as line
use Rattle.settle.specs.Within.{Turn}
use Rattle.settle.specs.Work.{Ruled, Leviable, standing_in, LeviedOn, Levied, part_of, sharing_of, Shareable, shared_out, divided_to, Divisible}
use Rattle.settle.specs.declared.payers.Part.{Part}
use Rattle.settle.specs.declared.payers.Part.TheVariants.{Cut, Returned}
use Rattle.settle.specs.declared.payers.Sharing.{Sharing}
use Rattle.settle.proofs.Lending.{fresh, front-count}

column-long : (n : ℕ) (s : List ℕ) (f : Field) → length (column_of f n s) ≡ n
unfolding column_of
column-long n s f = table-length n (cell f s)

-- ---- rounds and payments over arrays

module _ (total n first : ℕ) (weights caps marks₀ marks : List ℕ) (rest : Rest) (asked : Levyable n weights caps marks₀ total) (turn : Turn n first)
    (ended : Finished total n weights caps marks rest) where
  pub payments-asked : Payable n weights caps marks rest first
  payments-asked = payable total n weights caps marks₀ marks rest asked ended first turn

  -- what everybody pays by the standing that the rounds left
  abbrev paying : List ℕ
  paying = payments (take n weights) (take n caps) (standing_of n marks rest) first

  paying-long : length paying ≡ n
  paying-long =
      payments-length (take n weights) (take n caps) (standing_of n marks rest) first
      ∙ length-take-le n weights (omega (arith, asked.held.few, asked.held.weights_long))

  pub levied-on : (paid : List ℕ) → paid ≡ paying ++ drop n caps → LeviedOn n first total (take n weights) (take n caps) marks paid rest
  levied-on paid made =
      record {
        stands = ended.is;
        marks_long = ended.long;
        paid_long =
            omega (
              arith,
              ap length made,
              length-append paying (drop n caps),
              paying-long,
              length-drop n caps,
              asked.held.few,
              asked.held.caps_long,
            );
        payments =
            ap (take n) made ∙ take_at paying (drop n caps) n paying-long
            ∙ ap (λ (st : Standing). payments (take n weights) (take n caps) st first) ended.is;
        visits = ended.visits_are;
      }

-- ---- over the sheet

module _ (n first total : ℕ) (s : List ℕ) (asked : Leviable n first total s) where
  pub front-leviable : (xs : List ℕ) → length xs ≡ 256 → n ≡ length (take n xs)
  front-leviable xs e = sym (length-take-le n xs (omega (arith, asked.few)))

  pub weights-asked : Ruled (length (take n fresh)) line.weight s
  weights-asked = rw (front-count n asked.few) asked.weights

  pub caps-asked : Ruled (length (take n fresh)) line.cap s
  caps-asked = rw (front-count n asked.few) asked.caps

  -- an array whose front was read from a field
  module _ (f : Field) (xs : List ℕ) (read : xs ≡ column_of f (length (take n fresh)) s) where
    read_is : xs ≡ column_of f n s
    read_is = rw (front-count n asked.few) at read

    xs-long : length xs ≡ n
    xs-long = ap length read_is ∙ column-long n s f

    array_long : length (xs ++ drop n fresh) ≡ 256
    array_long = omega (arith, length-append xs (drop n fresh), length-drop n fresh, xs-long, asked.few)

    array-front : take n (xs ++ drop n fresh) ≡ column_of f n s
    array-front = take_at xs (drop n fresh) n xs-long ∙ read_is

  module _ (ws cs : List ℕ) (weights-read : ws ≡ column_of line.weight (length (take n fresh)) s)
      (caps-read : cs ≡ column_of line.cap (length (take n fresh)) s) where
    pub rounds-asked : Levyable n (ws ++ drop n fresh) (cs ++ drop n fresh) fresh total
    rounds-asked =
        record {
          held = record {
            few = asked.few;
            weights_long = array_long line.weight ws weights-read;
            caps_long = array_long line.cap cs caps-read;
            marks_long = refl;
            light = λ i. rw (array-front line.weight ws weights-read) (asked.light i);
            low = λ i. rw (array-front line.cap cs caps-read) (asked.low i);
            rich = asked.rich;
          };
          blank = zeros-at 256;
        }

    module _ (marks paid : List ℕ) (r : Rest)
        (now : LeviedOn n first total (take n (ws ++ drop n fresh)) (take n (cs ++ drop n fresh)) marks paid r) where
      ends : final total (take n (ws ++ drop n fresh)) (take n (cs ++ drop n fresh)) ≡ standing_in total n s
      ends = λ j. final total (array-front line.weight ws weights-read j) (array-front line.cap cs caps-read j)

      payings : take n paid ≡ payments (column_of line.weight n s) (column_of line.cap n s) (standing_in total n s) first
      payings =
          now.payments
          ∙ (λ j. payments (array-front line.weight ws weights-read j) (array-front line.cap cs caps-read j) (ends j) first)

      pub paid-count : n ≡ length (take n paid)
      paid-count = sym (length-take-le n paid (omega (arith, now.paid_long, asked.few)))

      pub marks-count : n ≡ length (take n marks)
      marks-count = sym (length-take-le n marks (omega (arith, now.marks_long, asked.few)))

      pub paid-asked : Lined line.paid (length (take n paid)) s
      paid-asked = rw (← paid-count) asked.paid.lined

      pub marks-asked : Lined line.closing (length (take n marks)) s
      marks-asked = rw (← marks-count) asked.closing.lined

      pub counts-level : length (take n marks) ≡ length (take n paid)
      counts-level = sym marks-count ∙ paid-count

      stands : standing_of n marks r ≡ standing_in total n s
      stands = now.stands ∙ ends

      pub levied : (t : List ℕ) → t ≡ with_column line.closing (take n marks) (with_column line.paid (take n paid) s) → Levied n first total s t r
      levied t put =
          record {
            bytes = put ∙ (λ j. with_column line.closing (stands j).marks (with_column line.paid (payings j) s));
            money = ap (λ (st : Standing). st.money) stands;
            weight = ap (λ (st : Standing). st.weight) stands;
            rounds = ap (λ (st : Standing). st.rounds) stands;
            visits = now.visits ∙ (λ j. visits total (array-front line.weight ws weights-read j) (array-front line.cap cs caps-read j));
          }

-- ---- an amount over the sums of a field

module _ (first : ℕ) (what : Sharing) (ps cs s : List ℕ) (asked : Shareable (length ps) first what s) (level : length cs ≡ length ps) where
  module _ (ps1 : List ℕ) (read : ps1 ≡ column_of what.from (length ps) s) where
    ps1-long : length ps1 ≡ length ps
    ps1-long = ap length read ∙ column-long (length ps) s what.from

    pub shares-asked : Apportionable what.amount.0 ps1 first cs
    shares-asked =
        record {
          few = omega (arith, ps1-long, asked.few);
          out_long = level ∙ sym ps1-long;
          turn = λ p. omega (arith, ps1-long, asked.turn (omega (arith, ps1-long)));
          covered = rw read asked.covered;
        }

    module _ (cs1 : List ℕ) (made : cs1 ≡ shares what.amount.0 ps1 first) where
      pub shares-lined : Lined what.to (length cs1) s
      shares-lined =
          let e : length cs1 ≡ length ps = ap length made ∙ shares-length what.amount.0 ps1 first ∙ ps1-long in rw e asked.parts.lined

      pub shares_left : (t : List ℕ) → t ≡ with_column what.to cs1 s → t ≡ shared_out (length ps) first what s
      shares_left t put = put ∙ (λ j. with_column what.to ((made ∙ ap (λ (xs : List ℕ). shares what.amount.0 xs first) read) j) s)

module _ (n first : ℕ) (what : Sharing) (s : List ℕ) (asked : Shareable n first what s) where
  pub front-shareable : (xs : List ℕ) → length xs ≡ 256 → n ≡ length (take n xs)
  front-shareable xs e = sym (length-take-le n xs (omega (arith, asked.few)))

  pub share-front : Shareable (length (take n fresh)) first what s
  share-front = rw (front-count n asked.few) asked

  pub none-shared : what.amount.0 ≡ 0 → s ≡ shared_out n first what s
  none-shared e = asked.idle e

  pub share-there : (t : List ℕ) → t ≡ shared_out (length (take n fresh)) first what s → t ≡ shared_out n first what s
  share-there t e = rw (front-count n asked.few) at e

-- ---- both sharings, one after the other

pub sharings-are : (left : Left) (what : Sharing) (k : ℕ) (other : Part) → k < 2 → what ≡ part_of left (get_or (Cut ∷ Returned ∷ []) k other)
    → what ≡ sharing_of left k
sharings-are left what zero other l e = e
sharings-are left what (suc zero) other l e = e
sharings-are left what (suc (suc k)) other l e = absurd (omega arith)

module _ (n first : ℕ) (left : Left) (s : List ℕ) where
  pub divided-none : s ≡ divided_to 0 n first left s
  unfolding divided_to
  divided-none = refl

  module _ (k : ℕ) (t : List ℕ) (so : t ≡ divided_to k n first left s) (what : Sharing) (is : what ≡ sharing_of left k) where
    pub divided-asked : Divisible n first left s → k < 2 → Shareable n first what t
    divided-asked asked l = rw (so, is) (asked k l)

    pub divided-more : (u : List ℕ) → u ≡ shared_out n first what t → u ≡ divided_to (k + 1) n first left s
    unfolding divided_to
    divided-more u made = rw (add-one k) (made ∙ (λ j. shared_out n first (is j) (so j)))

  pub divided-all : (k : ℕ) (t : List ℕ) → k ≤ 2 → 2 ≤ k → t ≡ divided_to k n first left s → t ≡ divided_to 2 n first left s
  divided-all k t l m so = let e : k ≡ 2 = omega arith in rw e at so
