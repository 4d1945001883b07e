-- From quotas and remainders to the shares: what the proofs of `share_out` and `split` lean on.
--     none_left      if the quotas leave nothing they are the shares
--     handable       what handing out asks
--     handed         what it gives are the shares
--     no-amount, no-weight     where there is nothing to share, or nobody has weight, everybody gets 0
--     front-listed       the front of an array of positions is the list
--     listed-few, listed-front, quotable     the list is no longer than an array of remainders, and these have room in its front
use Prim.Native.Nat.{ℕ, ◌+◌, ◌^◌, ◌≤◌, ◌<◌}
use mathlib.Core.Path.{◌≡◌, refl, ap, sym, ◌∙◌}
use mathlib.Core.Logic.{◌⊎◌, inl, inr, ⊎_elim}
use mathlib.Core.Bool.{Bool, true, false, ◌&&◌}
use mathlib.Core.List.{List}
use native.Mathlib.Omega.{arith}
use lib.Dec.{ltb}
use lib.ListN.{length, replicate, take, get_or-eq_default}
use Rattle.std.proofs.lemmas.List.{length-replicate, get_or-replicate}
use lib.Seq.{get_or-take}
use borrow.Author.Tests.{le-ltb}
use Rattle.columns.specs.Lists.{Lists}
use Rattle.columns.specs.Sum.{bit, whole}
use Rattle.columns.specs.Table.{at, table}
use Rattle.columns.proofs.Rank.{test-or}
use Rattle.columns.proofs.Sum.{lt-or-le, count-le, count-before}
use Rattle.columns.proofs.Table.{table-length, table_at, table_is, table_same, front_long}
use Rattle.columns.proofs.Listed.{found_at}
use Rattle.share.specs.Share.{quota, rank, left, share, shares}
use Rattle.share.specs.Split.{Splittable}
use Rattle.share.specs.Steps.{weighs, entry, Listed, listed_rest, Quotable, Quoted, Handable, place, start_in, raised}
use Rattle.share.proofs.Packed.{rest-off, left-listed, served-listed}
use Rattle.share.proofs.Rests.{rest_lt, rest-none, share-is}
use Rattle.share.proofs.Laws.{share-none, share-le-amount}

module _ (a : ℕ) (ws qs₀ rs₀ list : List ℕ) (W : ℕ) (c : Quotable ws qs₀ rs₀ list W) (qs rs : List ℕ) (remains : ℕ)
    (q : Quoted a ws list (length rs₀) qs rs remains) where
  some : 0 < whole ws
  some = let w = c.some in let is = c.is in omega arith

  rests-long : length rs ≡ length rs₀
  rests-long = ap length q.rests ∙ table-length (length rs₀) (listed_rest a ws list)

  rest_at : (j : ℕ) → j < length rs₀ → at rs j ≡ listed_rest a ws list j
  rest_at j l = rw q.rests (table_at 0 (length rs₀) (listed_rest a ws list) j l)

  rest_under : (j : ℕ) → at rs j < W
  rest_under j =
      ⊎_elim (λ (l : j < length rs₀). unfold listed_rest in omega (arith, rest_at j l, rest_lt a ws some (at list j), c.is))
      (λ (l : length rs₀ ≤ j). let e : length rs ≤ j = omega (arith, rests-long) in omega (arith, get_or-eq_default rs 0 e, c.some))
      (lt-or-le j (length rs₀))

  pub none_left : (first : ℕ) → remains ≡ 0 → qs ≡ shares a ws first
  unfolding shares
  none_left first z =
      q.quotas
      ∙ table_same (length ws) (quota a ws) (share a ws first)
      (λ i l. sym (share-is a ws some first i
      ∙ omega (arith, ap bit (le-ltb (rank a ws first i) (left a ws) (omega (arith, q.leaves))))))

  module _ (first : ℕ) (inside : 0 < length ws → first < length ws) where
    abbrev start : ℕ
    start = start_in list (length rs) first

    raised-share : (i : ℕ) → i < length ws → raised ws qs rs list first remains i ≡ share a ws first i
    unfolding raised
    raised-share i l =
        rw (q.quotas, table_at 0 (length ws) (quota a ws) i l, q.leaves)
        (ap (λ (t : Bool). quota a ws i + bit t) (each (test-or (weighs ws i))) ∙ sym (share-is a ws some first i))
      where
        each : (weighs ws i ≡ true) ⊎ (weighs ws i ≡ false)
            → weighs ws i && ltb (place rs start (entry ws i)) (left a ws) ≡ ltb (rank a ws first i) (left a ws)
        each (inl on) =
            rw (on, rests-long)
            (served-listed a ws list (length rs₀) first some c.listed.many c.listed.places (inside (omega arith)) rs rests-long rest_at (entry ws i) i
            (found_at (length ws) (weighs ws) i l on))
        each (inr off) =
            rw off (sym (le-ltb (rank a ws first i) (left a ws) (rest-none a ws some first i (rest-off a ws i off))))

    pub handable : a < 2 ^ 64 → Handable ws qs rs list W first remains
    handable f =
        record {
          serving =
              record {
                short = omega (arith, rests-long, c.listed.many, count-le (length ws) (weighs ws), c.short);
                under = rest_under;
                enough = omega (arith, rests-long, q.leaves, left-listed a ws list (length rs₀) first some c.listed.many c.listed.places);
              };
          short = c.short;
          room = ap length q.quotas ∙ table-length (length ws) (quota a ws);
          listed = rw rests-long c.listed;
          fits = λ i l. rw (raised-share i l) (omega (arith, share-le-amount a ws first i));
        }

    pub handed : (xs : List ℕ) → xs ≡ table (length ws) (raised ws qs rs list first remains) → xs ≡ shares a ws first
    unfolding shares
    handed xs is = is ∙ table_same (length ws) (raised ws qs rs list first remains) (share a ws first) raised-share

-- ---- where there is nothing to share, and where there is

pub front-listed : (ws list : List ℕ) (m : ℕ) → m ≤ length ws → length ws ≤ 256 → Lists (length ws) (weighs ws) list m
    → Listed ws (take m list) (length (take m list))
front-listed ws list m few short listed =
    let long : m ≡ length (take m list) = front_long list m 256 listed.long (omega arith) in
    record {
      long = refl;
      many = sym long ∙ listed.many;
      places =
          λ i l on.
          get_or-take m list (entry ws i) 0 (omega (arith, listed.many, count-before (weighs ws) i (length ws) l on)) ∙ listed.places i l on;
    }

module _ (ws list out : List ℕ) (first : ℕ) (asked : Splittable ws out first) (listed : Listed ws list (length list)) where
  pub listed-few : length list ≤ 256
  listed-few = omega (arith, listed.many, count-le (length ws) (weighs ws), asked.short)

  pub listed-front : (room : List ℕ) → length room ≡ 256 → length list ≡ length (take (length list) room)
  listed-front room long = front_long room (length list) 256 long listed-few

module _ (a : ℕ) (ws out xs : List ℕ) (first : ℕ) (asked : Splittable ws out first) (is : xs ≡ replicate (length out) 0) where
  blank_long : length xs ≡ length ws
  blank_long = ap length is ∙ length-replicate (length out) 0 ∙ asked.room

  blank_at : (i : ℕ) → at xs i ≡ 0
  blank_at i =
      ⊎_elim (λ (l : i < length out). rw is (get_or-replicate (length out) i 0 0 l))
      (λ (l : length out ≤ i). get_or-eq_default xs 0 (omega (arith, blank_long, asked.room))) (lt-or-le i (length out))

  cleared : ((i : ℕ) → share a ws first i ≡ 0) → xs ≡ shares a ws first
  unfolding shares
  cleared none =
      table_is 0 xs (length ws) (share a ws first) blank_long (λ i l. blank_at i ∙ sym (none i))

  pub no-amount : a ≡ 0 → xs ≡ shares a ws first
  no-amount z = cleared (λ i. omega (arith, share-le-amount a ws first i))

  pub no-weight : (s : ℕ) → s ≡ whole ws → s ≡ 0 → xs ≡ shares a ws first
  no-weight s e z = cleared (λ i. share-none a ws first (sym e ∙ z) i)

  pub quotable : (s : ℕ) (list room : List ℕ) → s ≡ whole ws → (s ≡ 0 → ⊥) → Listed ws list (length list) → length room ≡ 256
      → Quotable ws xs (take (length list) room) list s
  quotable s list room e more listed long =
      record {
        short = asked.short;
        is = e;
        some = omega arith;
        room = blank_long;
        blank = blank_at;
        listed = rw (← listed-front ws list out first asked listed room long) listed;
      }
