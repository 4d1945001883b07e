-- Laws of one tier by itself (specs/OneTier.antt), for whoever calls `call_tier`.
--     tier-length      as many calls as bands
--     tier-at          what stands in the column at row i is what row i is called for
--     tier-le          a band is called for at most its width
-- For the walk: `below-..` what lower bids stand for, `called-..` what a band is called for, `parts-..` what the bands of one bid are.
use Prim.Native.Nat.{ℕ, suc, ◌+◌, ◌-◌, ◌≤◌, ◌<◌, min}
use mathlib.Core.Path.{◌≡◌, sym, ◌∙◌}
use mathlib.Core.Logic.{⊎_elim}
use mathlib.Core.Bool.{cond}
use mathlib.Core.List.{List}
use native.Mathlib.Omega.{arith}
use lib.Dec.{ltb, eqb}
use lib.ListN.{length, get_or-eq_default}
use Rattle.columns.specs.Sum.{sum_to, whole}
use Rattle.columns.specs.Table.{at}
use Rattle.columns.proofs.Sum.{lt-or-le, sum_same}
use Rattle.columns.proofs.Table.{table-length, table_at, table-past}
use Rattle.share.specs.Share.{share}
use Rattle.share.proofs.Laws.{shares_at, shares-length}
use Rattle.merit.specs.OneTier.{under, equal, below, group_in, due_in, called_in, tier_calls}
use Rattle.merit.specs.Walk.{parts_in}
use Rattle.merit.proofs.Keyed.{before, cond-le, before-next, before-rise, before-skip, before-zero, before-le, before-all}
use Rattle.merit.proofs.Keyed.{peers, portion, shared, shared-le, shared-past, shared-met, shared-full, shared-part, shared-sum}

module _ (ws bs : List ℕ) where
  pub group-length : (k : ℕ) → length (group_in ws bs k) ≡ length ws
  unfolding group_in
  group-length k = table-length (length ws) (equal ws bs k)

  pub under-past : (k i : ℕ) → length ws ≤ i → under ws bs k i ≡ 0
  unfolding under
  under-past k i l = omega (arith, cond-le (ltb (at bs i) k) (at ws i), get_or-eq_default ws 0 l)

  pub below_next : (k : ℕ) → below ws bs (suc k) ≡ below ws bs k + whole (group_in ws bs k)
  unfolding below under group_in equal before peers
  below_next k = before-next (length ws) (at bs) (at ws) k

  pub below-rise : (j k : ℕ) → j ≤ k → below ws bs j ≤ below ws bs k
  unfolding below under before
  below-rise j k h = before-rise (length ws) (at bs) (at ws) j k h

  pub below-skip : (j k : ℕ) → j ≤ k → ((i : ℕ) → j ≤ at bs i → k ≤ at bs i) → below ws bs j ≡ below ws bs k
  unfolding below under before
  below-skip j k h none = before-skip (length ws) (at bs) (at ws) j k h none

  pub below-zero : below ws bs 0 ≡ 0
  unfolding below under before
  below-zero = before-zero (length ws) (at bs) (at ws)

  pub below-le : (k : ℕ) → below ws bs k ≤ whole ws
  unfolding below under before whole
  below-le k = before-le (length ws) (at bs) (at ws) k

  pub below_all : (k : ℕ) → ((i : ℕ) → at bs i < k) → below ws bs k ≡ whole ws
  unfolding below under before whole
  below_all k h = before-all (length ws) (at bs) (at ws) k (λ i l m. absurd (omega (arith, h i)))

module _ (need : ℕ) (ws bs : List ℕ) (first : ℕ) where
  -- what lower bids leave of the need
  abbrev left : ℕ → ℕ
  left k = need - below ws bs k

  pub called-le : (i : ℕ) → called_in need ws bs first i ≤ at ws i
  unfolding called_in due_in group_in equal shared portion peers
  called-le i = shared-le (length ws) (at bs) (at ws) left first i

  pub called-past : (i : ℕ) → length ws ≤ i → called_in need ws bs first i ≡ 0
  unfolding called_in due_in group_in equal shared portion peers
  called-past i l = shared-past (length ws) (at bs) (at ws) left first i l

  pub called-met : (i : ℕ) → need ≤ below ws bs (at bs i) → called_in need ws bs first i ≡ 0
  unfolding called_in due_in group_in equal shared portion peers
  called-met i h = shared-met (length ws) (at bs) (at ws) left first i (omega arith)

  pub called-full : (i : ℕ) → below ws bs (suc (at bs i)) ≤ need → called_in need ws bs first i ≡ at ws i
  called-full i h =
      ⊎_elim
      (λ (l : i < length ws).
      let enough : whole (group_in ws bs (at bs i)) ≤ left (at bs i) = omega (arith, below_next ws bs (at bs i)) in
      unfold called_in due_in group_in equal shared portion peers in
      shared-full (length ws) (at bs) (at ws) left first i l (unfold group_in equal peers in enough))
      (λ (l : length ws ≤ i). omega (arith, called-past i l, get_or-eq_default ws 0 l)) (lt-or-le i (length ws))

  called-part : (k i : ℕ) → share (due_in need ws bs k) (group_in ws bs k) first i ≡ cond (eqb (at bs i) k) (called_in need ws bs first i) 0
  unfolding called_in due_in group_in equal shared portion peers
  called-part k i = shared-part (length ws) (at bs) (at ws) left first k i

  called-group : (0 < length ws → first < length ws) → (k : ℕ)
      → sum_to (length ws) (λ i. cond (eqb (at bs i) k) (called_in need ws bs first i) 0) ≡ due_in need ws bs k
  unfolding called_in due_in group_in equal shared portion peers
  called-group inside k = shared-sum (length ws) (at bs) (at ws) left first inside k

  -- what of the need each band of bid k is called for
  abbrev pub parts_of : ℕ → List ℕ
  parts_of k = parts_in (need - below ws bs k) (group_in ws bs k) first

  pub parts-length : (k : ℕ) → length (parts_of k) ≡ length ws
  unfolding parts_in
  parts-length k =
      shares-length (min (need - below ws bs k) (whole (group_in ws bs k))) (group_in ws bs k) first ∙ group-length ws bs k

  pub parts_at : (k i : ℕ) → at (parts_of k) i ≡ cond (eqb (at bs i) k) (called_in need ws bs first i) 0
  unfolding parts_in
  parts_at k i =
      shares_at (min (need - below ws bs k) (whole (group_in ws bs k))) (group_in ws bs k) first i ∙ unfold due_in in called-part k i

  pub parts-sum : (0 < length ws → first < length ws) → (k : ℕ)
      → sum_to (length ws) (at (parts_of k)) ≡ min (need - below ws bs k) (whole (group_in ws bs k))
  parts-sum inside k =
      sum_same (length ws) (at (parts_of k)) (λ i. cond (eqb (at bs i) k) (called_in need ws bs first i) 0) (λ i l. parts_at k i)
      ∙ unfold due_in in called-group inside k

  pub tier-length : length (tier_calls need ws bs first) ≡ length ws
  unfolding tier_calls
  tier-length = table-length (length ws) (called_in need ws bs first)

  pub tier-at : (i : ℕ) → at (tier_calls need ws bs first) i ≡ called_in need ws bs first i
  unfolding tier_calls
  tier-at i =
      ⊎_elim (λ (l : i < length ws). table_at 0 (length ws) (called_in need ws bs first) i l)
      (λ (l : length ws ≤ i). table-past 0 (length ws) (called_in need ws bs first) i l ∙ sym (called-past i l)) (lt-or-le i (length ws))

  pub tier-le : (i : ℕ) → at (tier_calls need ws bs first) i ≤ at ws i
  tier-le i = omega (arith, tier-at i, called-le i)
