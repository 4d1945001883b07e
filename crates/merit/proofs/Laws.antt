-- Laws of the calls of both tiers and of the clearing price. What one call of `call_tier` leaves: proofs/OneTier.antt; that two calls
-- leave the calls of both tiers: proofs/Apart.antt.
--     calls_at             what stands in a column of calls at row i is what row i is called for
--     calls-length         as many as rows
--     called-le            a band is called for at most its width; calls-le: the same of the column
--     called-zero-width    a band of width 0 is not called
--     called-past          nor is a row past the last
--     called-met           nor is a band before which the need is met
--     called-full          a band is called in full if the need lasts for all of its order
--     calls-order          a band is called for more than 0 only if every cheaper band is called in full
--     lower-bid            a lower bid is an earlier order, whatever the tiers
--     tier-first           at one bid tier 1 is earlier than tier 2
--     called-group         the bands of one order are together called for what is due
--     called-alike         of two bands alike the one whose turn comes first is called for as much as the other, or one kWh more
--     calls-sum            all calls of both tiers, and the uncovered need, add up to the need
--     price-reached        the price is the bid of a row that delivered, or it is 0
--     price-least          no row that delivered bid above it
--     price-zero, price-bids-zero      it is 0 exactly if every row that delivered bid 0 ..
--     price-none           .. and so if nobody delivered
--     price-le             it is at most B if the bids of all that delivered are
--     price-le-called      it is at most what 01's rule gives for the same calls ..
--     price-all-deliver    .. and the same if all that are called deliver
--     price-unique, call-tier-unique      two results that one contract allows are equal
use Prim.Native.Nat.{ℕ, zero, suc, ◌+◌, ◌-◌, ◌≤◌, ◌<◌, min}
use mathlib.Core.Path.{◌≡◌, ap, sym, ◌∙◌}
use mathlib.Core.Logic.{◌⊎◌, inl, inr, ⊎_elim}
use mathlib.Core.Bool.{Bool, true, cond}
use mathlib.Core.List.{List}
use native.Mathlib.Omega.{arith}
use lib.Dec.{ltb, eqb}
use lib.ListN.{length}
use borrow.Author.Tests.{lt-ltb, ltb-true}
use Rattle.columns.specs.Sum.{sum_to, whole}
use Rattle.columns.specs.Table.{at, Below}
use Rattle.columns.proofs.Sum.{lt-or-le, term-le, max-where-term, max-where-bound, max-where-reached, max-where-fewer}
use Rattle.columns.proofs.First.{left-true, right-true}
use Rattle.columns.proofs.Table.{table-length, table_at, table-past}
use Rattle.columns.proofs.Whole.{whole-table}
use Rattle.columns.proofs.Unique.{LeavesOne, OneResult}
use Rattle.share.specs.Share.{turn, SameOrOneMore}
use Rattle.merit.specs.Band.{Tier, one, two, Bands, widths, bids, rows, order_of, order_at}
use Rattle.merit.specs.Call.{cheaper, group, due, called, calls, uncovered}
use Rattle.merit.specs.Price.{delivers, price, called_price}
use Rattle.merit.proofs.call_tier.Reads as call-tier
use Rattle.merit.proofs.price.Reads as price-reads
use Rattle.merit.proofs.Keyed.{before, before-next, before-zero, before-all}
use Rattle.merit.proofs.Keyed.{peers, peers-sum, portion, shared, shared-le, shared-past, shared-met, shared-full, shared_alike, shared-sum}
use Rattle.merit.proofs.Groups.{cheaper-next, cheaper-tier, cheaper-rise, cheaper-zero, cheaper-all, groups-apart}

pub lower-bid : (b : Bands) (t u : Tier) (i j : ℕ) → at (bids b u) j < at (bids b t) i → order_at b u j < order_at b t i
lower-bid b one one i j l = omega arith
lower-bid b one two i j l = omega arith
lower-bid b two one i j l = omega arith
lower-bid b two two i j l = omega arith

pub tier-first : (b : Bands) (i j : ℕ) → at (bids b one) i ≡ at (bids b two) j → order_at b one i < order_at b two j
tier-first b i j e = omega arith

module _ (need : ℕ) (b : Bands) (first : ℕ) where
  -- what cheaper bands leave of the need
  abbrev left : ℕ → ℕ
  left k = need - cheaper b k

  pub called-le : (t : Tier) (i : ℕ) → called need b first t i ≤ at (widths b t) i
  unfolding called due group shared portion peers
  called-le t i = shared-le (rows b) (order_at b t) (at (widths b t)) left first i

  pub called-zero-width : (t : Tier) (i : ℕ) → at (widths b t) i ≡ 0 → called need b first t i ≡ 0
  called-zero-width t i e = omega (arith, called-le t i)

  pub called-past : (t : Tier) (i : ℕ) → rows b ≤ i → called need b first t i ≡ 0
  unfolding called due group shared portion peers
  called-past t i l = shared-past (rows b) (order_at b t) (at (widths b t)) left first i l

  pub called-alike : (t : Tier) (i j : ℕ) → first < rows b → i < rows b → j < rows b → at (bids b t) i ≡ at (bids b t) j
      → at (widths b t) i ≡ at (widths b t) j → turn (rows b) first i < turn (rows b) first j
      → SameOrOneMore (called need b first t i) (called need b first t j)
  unfolding called due group shared portion peers
  called-alike t i j inside l m e =
      shared_alike (rows b) (order_at b t) (at (widths b t)) left first i j inside l m (ap (order_of t) e)

  pub called-met : (t : Tier) (i : ℕ) → need ≤ cheaper b (order_at b t i) → called need b first t i ≡ 0
  unfolding called due group shared portion peers
  called-met t i h = shared-met (rows b) (order_at b t) (at (widths b t)) left first i (omega arith)

  pub called-full : (t : Tier) (i : ℕ) → i < rows b → cheaper b (suc (order_at b t i)) ≤ need → called need b first t i ≡ at (widths b t) i
  called-full t i l h = full (omega (arith, cheaper-tier b t (order_at b t i)))
    where
      full : whole (group b t (order_at b t i)) ≤ left (order_at b t i) → called need b first t i ≡ at (widths b t) i
      full m = unfold called due group shared portion peers in shared-full (rows b) (order_at b t) (at (widths b t)) left first i l m

  pub calls-order : (t u : Tier) (i j : ℕ) → 0 < called need b first t i → j < rows b → order_at b u j < order_at b t i
      → called need b first u j ≡ at (widths b u) j
  calls-order t u i j some l h =
      ⊎_elim (λ (m : cheaper b (order_at b t i) < need).
      called-full u j l (omega (arith, cheaper-rise b (suc (order_at b u j)) (order_at b t i) h)))
      (λ (m : need ≤ cheaper b (order_at b t i)). absurd (omega (arith, called-met t i m))) (lt-or-le (cheaper b (order_at b t i)) need)

  pub calls-length : (t : Tier) → length (calls need b first t) ≡ rows b
  unfolding calls
  calls-length t = table-length (rows b) (called need b first t)

  pub calls_at : (t : Tier) (i : ℕ) → at (calls need b first t) i ≡ called need b first t i
  unfolding calls
  calls_at t i =
      ⊎_elim (λ (l : i < rows b). table_at 0 (rows b) (called need b first t) i l)
      (λ (l : rows b ≤ i). table-past 0 (rows b) (called need b first t) i l ∙ sym (called-past t i l)) (lt-or-le i (rows b))

  pub calls-le : (t : Tier) (i : ℕ) → at (calls need b first t) i ≤ at (widths b t) i
  calls-le t i = omega (arith, calls_at t i, called-le t i)

  module _ (inside : 0 < rows b → first < rows b) where
    pub called-group : (t : Tier) (k : ℕ) → sum_to (rows b) (λ i. cond (eqb (order_at b t i) k) (called need b first t i) 0) ≡ due need b t k
    unfolding called due group shared portion peers
    called-group t k = shared-sum (rows b) (order_at b t) (at (widths b t)) left first inside k

    -- what the bands before order k are called for
    abbrev reached : Tier → ℕ → ℕ
    reached t k = before (rows b) (order_at b t) (called need b first t) k

    reached-next : (t : Tier) (k : ℕ) → reached t (suc k) ≡ reached t k + due need b t k
    reached-next t k =
        omega (
          arith,
          before-next (rows b) (order_at b t) (called need b first t) k,
          peers-sum (rows b) (order_at b t) (called need b first t) k,
          called-group t k,
        )

    due-both : (k : ℕ) → min need (cheaper b k) + (due need b one k + due need b two k) ≡ min need (cheaper b (suc k))
    unfolding due
    due-both k =
        ⊎_elim (λ (e : whole (group b one k) ≡ 0). omega (arith, cheaper-next b k))
        (λ (e : whole (group b two k) ≡ 0). omega (arith, cheaper-next b k)) (groups-apart b k)

    reached-sum : (k : ℕ) → reached one k + reached two k ≡ min need (cheaper b k)
    reached-sum zero =
        omega (
          arith,
          before-zero (rows b) (order_at b one) (called need b first one),
          before-zero (rows b) (order_at b two) (called need b first two),
          cheaper-zero b,
        )
    reached-sum (suc k) = omega (arith, reached-sum k, reached-next one k, reached-next two k, due-both k)

    -- past every order
    end : ℕ
    end = suc (sum_to (rows b) (order_at b one) + sum_to (rows b) (order_at b two))

    below_end : (t : Tier) → Below (rows b) (λ i. order_at b t i < end)
    unfolding end
    below_end one i l = omega (arith, term-le (rows b) (order_at b one) i l)
    below_end two i l = omega (arith, term-le (rows b) (order_at b two) i l)

    reached-all : (t : Tier) → reached t end ≡ whole (calls need b first t)
    unfolding calls
    reached-all t =
        before-all (rows b) (order_at b t) (called need b first t) end (λ i l m. absurd (omega (arith, below_end t i l)))
        ∙ sym (whole-table (rows b) (called need b first t))

    pub calls-sum : length b.widths2 ≡ rows b
        → whole (calls need b first one) + whole (calls need b first two) + uncovered need b ≡ need
    unfolding uncovered
    calls-sum level = omega (arith, reached-sum end, reached-all one, reached-all two, cheaper-all b level end below_end)

module _ (bs cs es : List ℕ) where
  -- the row at position i was called for more than 0 and delivered
  abbrev pub Delivered : ℕ → Type 0
  Delivered i = (i < length bs) × (0 < at cs i) × (0 < at es i)

  test : ℕ → Bool
  test i = delivers (at cs i) (at es i)

  told : (i : ℕ) → Delivered i → test i ≡ true
  unfolding test
  told i d = rw (lt-ltb 0 (at cs i) d.1, lt-ltb 0 (at es i) d.2)

  meant : (i : ℕ) → i < length bs → test i ≡ true → Delivered i
  unfolding test
  meant i l e =
      (l, ltb-true 0 (at cs i) (left-true _ (ltb 0 (at es i)) e), ltb-true 0 (at es i) (right-true (ltb 0 (at cs i)) _ e))

  pub price-reached : ((i : ℕ) × Delivered i × (at bs i ≡ price bs cs es)) ⊎ (price bs cs es ≡ 0)
  unfolding price test
  price-reached =
      ⊎_elim
      (λ (w : (i : ℕ) × (i < length bs) × (test i ≡ true) × (at bs i ≡ price bs cs es)). inl (w.0, meant w.0 w.1 w.2, w.3))
      (λ (e : price bs cs es ≡ 0). inr e) (max-where-reached (length bs) test (at bs))

  pub price-least : (i : ℕ) → Delivered i → at bs i ≤ price bs cs es
  unfolding price test
  price-least i d = max-where-term (length bs) test (at bs) i d.0 (told i d)

  pub price-le : (m : ℕ) → ((i : ℕ) → Delivered i → at bs i ≤ m) → price bs cs es ≤ m
  unfolding price test
  price-le m h = max-where-bound (length bs) test (at bs) m (λ i l e. h i (meant i l e))

  pub price-zero : price bs cs es ≡ 0 → (i : ℕ) → Delivered i → at bs i ≡ 0
  price-zero e i d = omega (arith, price-least i d)

  pub price-bids-zero : ((i : ℕ) → Delivered i → at bs i ≡ 0) → price bs cs es ≡ 0
  price-bids-zero h = let l : price bs cs es ≤ 0 = price-le 0 (λ i d. omega (arith, h i d)) in omega arith

  pub price-none : ((i : ℕ) → Delivered i → ⊥) → price bs cs es ≡ 0
  price-none h = price-bids-zero (λ i d. absurd (h i d))

  pub price-le-called : price bs cs es ≤ called_price bs cs
  unfolding price called_price test
  price-le-called =
      max-where-fewer (length bs) test (λ i. ltb 0 (at cs i)) (at bs) (λ i l e. lt-ltb 0 (at cs i) (meant i l e).1)

  pub price-all-deliver : ((i : ℕ) → i < length bs → 0 < at cs i → 0 < at es i) → price bs cs es ≡ called_price bs cs
  unfolding price called_price test
  price-all-deliver h =
      let l =
      max-where-fewer (length bs) (λ i. ltb 0 (at cs i)) test (at bs)
      (λ i l e. let some : 0 < at cs i = ltb-true 0 (at cs i) e in told i (l, some, h i l some)) in
      omega (arith, price-le-called, l)

pub price-unique : OneResult price-reads.Learnt
price-unique κs a x y e f p q = ap (λ (m : ℕ). record { 0 = m }) (p ∙ sym q)

pub call-tier-unique : LeavesOne call-tier.Learnt (λ κs x y e f. (x ≡ y) × (e.1.1.1.1.0.now ≡ f.1.1.1.1.0.now))
call-tier-unique κs a x y e f p q = (ap (λ (m : ℕ). record { 0 = m }) (p.beyond ∙ sym q.beyond), p.called ∙ sym q.called)
