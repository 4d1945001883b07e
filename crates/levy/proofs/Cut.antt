-- Who receives less, and what goes back: penalties fill the shortfall first, what they leave of it is shared as cuts over the
-- compensations, whose sum is the total, and what is left of them is returned over them.
--     to-cut-is, to-return-is     what is left of either is the difference, or nothing
--     cuts-length, returned-length     as many cuts as compensations, as many returns as penalties
--     cuts-total      the cuts add up to what penalties leave of the shortfall
--     cut-le          no cut is above its compensation
--     cuts-none       somebody of weight above 0 is open: nobody is cut
--     cut-capped      somebody is cut: every payer of weight above 0 closed
--     cut-uncovered   somebody is cut: penalties do not cover the shortfall
--     cut-alike       of two equal compensations the one whose turn comes first is cut by as much as the other, or a fen more
--     returned-total  what is returned adds up to what the shortfall leaves of the penalties
--     returned-le     nobody is returned more than its penalty
--     returned-whole  there is no shortfall: every penalty is returned whole
--     returned-open   nor is there one if somebody of weight above 0 is open
--     returned-alike  of two equal penalties the one whose turn comes first is returned as much as the other, or a fen more
--     balance         what is paid and owed, less what is returned, is what receivers keep
use Prim.Native.Nat.{ℕ, ◌+◌, ◌-◌, ◌≤◌, ◌<◌}
use mathlib.Core.Path.{◌≡◌, sym, ◌∙◌}
use mathlib.Core.List.{List}
use native.Mathlib.Omega.{arith}
use lib.ListN.{length}
use Rattle.columns.specs.Sum.{sum_to}
use Rattle.columns.specs.Table.{at}
use Rattle.columns.proofs.Sum.{sum_same, sum-add}
use Rattle.columns.specs.Sum.{whole}
use Rattle.share.specs.Share.{turn, share, SameOrOneMore}
use Rattle.share.proofs.Laws.{share-alike, share-le-amount, share-le-weight, shares-within, shares-length, shares_at, shares-are-weights}
use Rattle.levy.specs.Rounds.{final, payments, shortfall, to_cut, to_return, cuts, returned}
use Rattle.levy.proofs.Payment.{paid-total, shortfall-none, shortfall-all, shortfall-le}

module _ (penalties short : ℕ) where
  -- what is left of either is nothing or the difference
  pub to-cut-is : to_cut penalties short ≡ short - penalties
  to-cut-is = omega arith

  pub to-return-is : to_return penalties short ≡ penalties - short
  to-return-is = omega arith

module _ (total : ℕ) (ws cs penalties : List ℕ) (first : ℕ) where
  -- the shortfall after the last round, what penalties leave of it, and what it leaves of them
  abbrev short : ℕ
  short = shortfall (final total ws cs)

  abbrev bare : ℕ
  bare = to_cut (whole penalties) short

  abbrev over : ℕ
  over = to_return (whole penalties) short

  -- ---- what is returned

  abbrev given : List ℕ
  given = returned (final total ws cs) penalties first

  returned-share : (k : ℕ) → at given k ≡ share over penalties first k
  unfolding returned
  returned-share = shares_at over penalties first

  pub returned-length : length given ≡ length penalties
  unfolding returned
  returned-length = shares-length over penalties first

  pub returned-alike : (i j : ℕ) → first < length penalties → i < length penalties → at penalties i ≡ at penalties j
      → turn (length penalties) first i < turn (length penalties) first j → SameOrOneMore (at given i) (at given j)
  returned-alike i j inside l e before =
      rw (returned-share i, returned-share j) (share-alike over penalties first i j inside l e before)

  pub returned-le : (k : ℕ) → at given k ≤ at penalties k
  returned-le k =
      omega (arith, returned-share k, share-le-weight over penalties first k (omega (arith, to-return-is (whole penalties) short)))

  pub returned-total : (0 < length penalties → first < length penalties) → whole given ≡ whole penalties - short
  unfolding returned
  returned-total inside =
      shares-within over penalties first (omega (arith, to-return-is (whole penalties) short)) inside ∙ to-return-is (whole penalties) short

  pub returned-whole : short ≡ 0 → given ≡ penalties
  unfolding returned
  returned-whole z = shares-are-weights over penalties first (omega (arith, to-return-is (whole penalties) short))

  pub returned-open : (i : ℕ) → 0 < at ws i → at (final total ws cs).marks i ≡ 0 → given ≡ penalties
  returned-open i some z = returned-whole (shortfall-none total ws cs i some z)

  -- ---- cuts

  module _ (compensations : List ℕ) where
    abbrev taken : List ℕ
    taken = cuts (final total ws cs) penalties compensations first

    cut-share : (k : ℕ) → at taken k ≡ share bare compensations first k
    unfolding cuts
    cut-share = shares_at bare compensations first

    pub cuts-length : length taken ≡ length compensations
    unfolding cuts
    cuts-length = shares-length bare compensations first

    pub cut-alike : (i j : ℕ) → first < length compensations → i < length compensations → at compensations i ≡ at compensations j
        → turn (length compensations) first i < turn (length compensations) first j → SameOrOneMore (at taken i) (at taken j)
    cut-alike i j inside l e before =
        rw (cut-share i, cut-share j) (share-alike bare compensations first i j inside l e before)

    -- who is cut is cut by part of what is left open
    cut-part : (k : ℕ) → at taken k ≤ short - whole penalties
    cut-part k =
        omega (arith, cut-share k, share-le-amount bare compensations first k, to-cut-is (whole penalties) short)

    pub cuts-none : (i : ℕ) → 0 < at ws i → at (final total ws cs).marks i ≡ 0 → (k : ℕ) → at taken k ≡ 0
    cuts-none i some z k = omega (arith, cut-part k, shortfall-none total ws cs i some z)

    pub cut-capped : (k : ℕ) → 0 < at taken k → (i : ℕ) → 0 < at ws i → 0 < at (final total ws cs).marks i
    cut-capped k up = shortfall-all total ws cs (omega (arith, cut-part k))

    pub cut-uncovered : (k : ℕ) → 0 < at taken k → whole penalties < short
    cut-uncovered k up = omega (arith, cut-part k)

    module _ (is : total ≡ whole compensations) where
      -- no more is cut than the compensations come to
      bare-le : bare ≤ whole compensations
      bare-le = omega (arith, to-cut-is (whole penalties) short, shortfall-le total ws cs)

      pub cut-le : (k : ℕ) → at taken k ≤ at compensations k
      cut-le k = omega (arith, cut-share k, share-le-weight bare compensations first k bare-le)

      pub cuts-total : (0 < length compensations → first < length compensations) → whole taken ≡ short - whole penalties
      unfolding cuts
      cuts-total inside = shares-within bare compensations first bare-le inside ∙ to-cut-is (whole penalties) short

      pub balance : (0 < length compensations → first < length compensations) → (0 < length ws → first < length ws)
          → (0 < length penalties → first < length penalties)
          → (whole (payments ws cs (final total ws cs) first) + whole penalties) - whole given
          ≡ sum_to (length compensations) (λ k. at compensations k - at taken k)
      balance inside inside' inside'' =
          omega (
            arith,
            kept,
            paid-total total ws cs first inside',
            cuts-total inside,
            returned-total inside'',
          )
        where
          kept : sum_to (length compensations) (λ k. at compensations k - at taken k) + whole taken ≡ whole compensations
          kept =
              unfold whole in
              rw cuts-length
              (sym (sum-add (length compensations) (λ k. at compensations k - at taken k) (at taken))
              ∙ sum_same (length compensations) (λ k. at compensations k - at taken k + at taken k) (at compensations) (λ k l. omega (arith, cut-le k)))
