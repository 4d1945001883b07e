-- The quotas and remainders over the list: what the proof of `quotas_of` leans on. Each law has the shape of one fact that the code asks for.
--     Filled, filled_none, weight-in, divisible, quota-in, leaves-more, filled_next, filled-end     quotas and remainders up to a
--                               place of the list
use Prim.Native.Nat.{ℕ, ◌+◌, ◌-◌, ◌*◌, ◌≤◌, ◌<◌}
use mathlib.Core.Path.{◌≡◌, refl, ap, sym, ◌∙◌}
use mathlib.Core.List.{List}
use native.Mathlib.Omega.{arith}
use lib.ListN.{length, set, length-set}
use borrow.Author.Tests.{ltb-true}
use Rattle.columns.specs.Sum.{sum_to, whole}
use Rattle.columns.specs.Table.{at, Below}
use Rattle.columns.proofs.Sum.{sum-next, sum-shorter}
use Rattle.columns.proofs.Table.{table_is, fill-next}
use Rattle.columns.proofs.Listed.{Found, Dealt, dealt-none, dealt-next, dealt-all}
use Rattle.share.specs.Share.{quota, rest}
use Rattle.share.specs.declared.Division.{Division}
use Rattle.share.specs.Steps.{Divided, Divisible, weighs, listed_quota, listed_rest, Quotable, Quoted}
use Rattle.share.proofs.Packed.{quota-off, found_listed, over-list}
use Rattle.share.proofs.Rests.{weight-le, quotas-le, left_is}
use Rattle.share.proofs.Long.{quota-is, rest-is}

-- ---- the quotas, and the remainders of the list

-- both are filled up to place j of the list, and the quotas up to there are taken off the amount
pub record Filled (a : ℕ) (ws list : List ℕ) (m : ℕ) (qs₀ qs rs : List ℕ) (remains j : ℕ) : Type 0 where
  pub within : j ≤ m
  pub quotas : Dealt (length ws) (weighs ws) (quota a ws) qs₀ qs j
  pub rests_room : length rs ≡ m
  pub rests : Below j (λ k. at rs k ≡ listed_rest a ws list k)
  pub leaves : remains + sum_to j (listed_quota a ws list) ≡ a

module _ (a : ℕ) (ws qs₀ rs₀ list : List ℕ) (W : ℕ) (c : Quotable ws qs₀ rs₀ list W) where
  some : 0 < whole ws
  some = let w = c.some in let is = c.is in omega arith

  -- over the whole list the quotas are those of the column
  quotas-all : sum_to (length rs₀) (listed_quota a ws list) ≡ sum_to (length ws) (quota a ws)
  unfolding listed_quota
  quotas-all = over-list ws list (length rs₀) c.listed.many c.listed.places (quota a ws) (λ i off. quota-off a ws i off)

  pub filled_none : Filled a ws list (length rs₀) qs₀ qs₀ rs₀ a 0
  filled_none =
      record {
        within = omega arith;
        quotas = dealt-none (length ws) (weighs ws) (quota a ws) qs₀;
        rests_room = refl;
        rests = λ k l. absurd (omega arith);
        leaves = unfold sum_to in omega arith;
      }

  module _ (qs rs : List ℕ) (remains j : ℕ) (f : Filled a ws list (length rs₀) qs₀ qs rs remains j) where
    pub filled-end : length list ≤ j → Quoted a ws list (length rs₀) qs rs remains
    filled-end q =
        let l : length rs₀ ≤ j = omega (arith, c.listed.long) in
        record {
          quotas =
              dealt-all (length ws) (weighs ws) (quota a ws) qs₀ qs j f.quotas (omega (arith, c.listed.many)) c.room
              (λ i q off. c.blank i ∙ sym (quota-off a ws i off));
          rests = table_is 0 rs (length rs₀) (listed_rest a ws list) f.rests_room (λ k q. f.rests k (omega (arith, f.rests_room)));
          leaves =
              let e : j ≡ length rs₀ = omega (arith, f.within) in
              omega (arith, f.leaves, ap (λ (k : ℕ). sum_to k (listed_quota a ws list)) e, quotas-all, left_is a ws some);
        }

    module _ (inside : j < length list) (x : ℕ) (x-is : x ≡ at list j) where
      l : j < length rs₀
      l = omega (arith, c.listed.long)

      here : Found (length ws) (weighs ws) j x
      here = rw x-is (found_listed ws list (length rs₀) j c.listed l)

      pub weight-in : x < length ws
      weight-in = here.inside

      pub divisible : Divisible (at ws x) W
      unfolding weighs
      divisible = record { some = ltb-true 0 (at ws x) here.passes; most = rw c.is (weight-le ws x) }

      pub quota-in : x < length qs
      quota-in = omega (arith, here.inside, f.quotas.room, c.room)

      rest-in : j < length rs
      rest-in = omega (arith, l, f.rests_room)

      module _ (d : Division) (divided : Divided (a * at ws x) W d) where
        quota-now : d.quota ≡ quota a ws x
        unfolding quota
        quota-now = rw (← c.is) (quota-is (a * at ws x) W d divided)

        pub leaves-more : d.quota ≤ remains
        unfolding listed_quota
        leaves-more =
            omega (
              arith,
              quota-now,
              ap (quota a ws) x-is,
              f.leaves,
              sum-next j (listed_quota a ws list),
              sum-shorter (j + 1) (length rs₀) (listed_quota a ws list) (omega (arith, l)),
              quotas-all,
              quotas-le a ws some,
            )

        pub filled_next : Filled a ws list (length rs₀) qs₀ (set qs x d.quota) (set rs j d.rest) (remains - d.quota) (j + 1)
        unfolding listed_quota listed_rest
        filled_next =
            record {
              within = omega (arith, l);
              quotas =
                  dealt-next (length ws) (weighs ws) (quota a ws) qs₀ qs j f.quotas x d.quota here (omega (arith, c.room)) quota-now;
              rests_room = length-set rs j d.rest ∙ f.rests_room;
              rests =
                  fill-next 0 rs j d.rest (listed_rest a ws list) rest-in
                  (unfold rest in rw (← x-is, ← c.is) (rest-is (a * at ws x) W d divided)) f.rests;
              leaves =
                  omega (arith, leaves-more, quota-now, ap (quota a ws) x-is, f.leaves, sum-next j (listed_quota a ws list));
            }
