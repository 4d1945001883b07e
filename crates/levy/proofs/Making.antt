-- From shares to payments, cuts and what is returned: each need of the code that makes them, and what the callers of payments have.
--     spread-split                              the money left: what its sharing asks
--     pay-spread, payments-made                 payments: what the sharing of the money left asks, the column
--     part-split, part-long, part_small         an amount over sums: what the sharing and the copying ask
--     shortfall-final                           the shortfall that the code answers, of the last standing
--     payable                                   what the makers of payments ask, from the answer of the rounds
use Prim.Native.Nat.{ℕ, ◌≤◌, ◌<◌}
use mathlib.Core.Path.{◌≡◌, ap, sym, ◌∙◌}
use mathlib.Core.Bool.{cond}
use mathlib.Core.List.{List}
use native.Mathlib.Omega.{arith}
use lib.Dec.{eqb}
use lib.ListN.{length, take}
use lib.Seq.{length-take-le}
use Rattle.columns.specs.Table.{at, table}
use Rattle.columns.proofs.Table.{table-length, table_same}
use Rattle.share.specs.Share.{shares}
use Rattle.share.specs.Split.{Splittable}
use Rattle.share.proofs.Laws.{shares_at, shares-length, share-le-weight}
use Rattle.levy.specs.Rounds.{final, open_weights, paid, payments, shortfall}
use Rattle.levy.specs.Asked.{standing_of, Small, Levyable, Finished, Short, Payable, Spread, paid_from, Room, Apportionable}
use Rattle.levy.specs.declared.Rest.{Rest}
use Rattle.levy.proofs.Payment.{paid-le-cap}
use Rattle.levy.proofs.Fill.{whole-small}

module _ (money : ℕ) (still caps marks : List ℕ) (first : ℕ) (parts₀ : List ℕ) (asked : Spread money still caps marks first parts₀) where
  pub spread-split : Splittable still parts₀ first
  spread-split =
      record { short = asked.few; room = asked.parts_long; fits = whole-small still asked.few asked.small; inside = asked.turn }

module _ (n : ℕ) (weights caps marks : List ℕ) (rest : Rest) (first : ℕ) (asked : Payable n weights caps marks rest first)
    (still : List ℕ) (open-are : still ≡ open_weights (take n weights) (take n marks)) where
  abbrev ws : List ℕ
  ws = take n weights

  abbrev cs : List ℕ
  cs = take n caps

  abbrev ms : List ℕ
  ms = take n marks

  wide : length still ≡ n
  unfolding open_weights
  wide =
      ap length open-are ∙ table-length (length ws) (λ i. cond (eqb (at ms i) 0) (at ws i) 0)
      ∙ length-take-le n weights (omega (arith, asked.few, asked.weights_long))

  paid-same : (i : ℕ) → paid_from cs ms (shares rest.money.0 still first) i ≡ paid ws cs (standing_of n marks rest) first i
  unfolding paid_from paid
  paid-same i = rw (shares_at rest.money.0 still first i, open-are)

  pub pay-spread : Small still → (parts : List ℕ) → length parts ≡ n → Spread rest.money.0 still (take n caps) (take n marks) first parts
  pay-spread small parts room =
      record {
        few = omega (arith, wide, asked.few);
        small = small;
        parts_long = room ∙ sym wide;
        caps_long = length-take-le n caps (omega (arith, asked.few, asked.caps_long)) ∙ sym wide;
        marks_long = length-take-le n marks (omega (arith, asked.few, asked.marks_long)) ∙ sym wide;
        turn = rw wide asked.turn;
        fits = λ i l. rw (paid-same i) (asked.fits i);
      }

  pub payments-made : (made : List ℕ) → made ≡ table (length still) (paid_from (take n caps) (take n marks) (shares rest.money.0 still first))
      → made ≡ payments (take n weights) (take n caps) (standing_of n marks rest) first
  unfolding payments
  payments-made made is =
      is
      ∙ table_same (length still) (paid_from cs ms (shares rest.money.0 still first)) (paid ws cs (standing_of n marks rest) first) (λ i l. paid-same i)
      ∙ ap (λ (m : ℕ). table m (paid ws cs (standing_of n marks rest) first))
      (wide ∙ sym (length-take-le n weights (omega (arith, asked.few, asked.weights_long))))

module _ (amount : ℕ) (sums : List ℕ) (first : ℕ) (out : List ℕ) (asked : Apportionable amount sums first out)
    (weights : List ℕ) (same : weights ≡ sums) where
  -- whoever goes first: what is asked does not depend on it
  pub part-split : (weights₀ parts : List ℕ) → Room (length sums) weights₀ parts → Small weights → (turn : ℕ) → turn ≤ first
      → Splittable weights parts turn
  part-split weights₀ parts room low turn le =
      record {
        short = rw same asked.few;
        room = room.two_long ∙ ap length (sym same);
        fits = whole-small weights (rw same asked.few) low;
        inside = rw same (λ some. omega (arith, le, asked.turn some));
      }

  module _ (turn : ℕ) (parts : List ℕ) (parts_are : parts ≡ shares amount weights turn) where
    pub part-long : length out ≡ length parts
    part-long = asked.out_long ∙ ap length (sym same) ∙ sym (ap length parts_are ∙ shares-length amount weights turn)

    pub part_small : Small weights → Small parts
    part_small low i =
        rw (parts_are, shares_at amount weights turn i)
        (omega (arith, low i, share-le-weight amount weights turn i (rw same asked.covered)))

-- once the rounds have ended nobody pays above its cap, so each payment fits
pub payable : (total n : ℕ) (weights caps marks₀ marks : List ℕ) (rest : Rest) → Levyable n weights caps marks₀ total
    → Finished total n weights caps marks rest → (first : ℕ) → (0 < n → first < n) → Payable n weights caps marks rest first
payable total n weights caps marks₀ marks rest asked ended first turn =
    record {
      few = asked.held.few;
      weights_long = asked.held.weights_long;
      caps_long = asked.held.caps_long;
      marks_long = ended.long;
      turn = turn;
      fits = λ i. rw ended.is (omega (arith, paid-le-cap total (take n weights) (take n caps) first i, asked.held.low i));
    }

-- the answers of the code, said of the last standing
module _ (total n : ℕ) (weights caps marks : List ℕ) (rest : Rest) (ended : Finished total n weights caps marks rest) where
  pub shortfall-final : (x : ℕ) → Short rest x → x ≡ shortfall (final total (take n weights) (take n caps))
  shortfall-final x short = short n marks ∙ ap shortfall ended.is
