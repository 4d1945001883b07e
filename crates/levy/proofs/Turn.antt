-- The loop of one round, over the list of open payers: what holds before its place j, in the words of the columns that the code holds.
-- Who is not open does not close, so the loop has done all positions up to the next open one, or all n.
--     Turn             what holds once the positions below i are done
--     Pass             the loop's invariant: Turn at the next open position
--     pass-none        it holds before the first place
--     pass-next        one place more
--     pass-end         after the last one the round is that of `next` and `closed`, and who is left is listed
--     products         both products of the closing test fit
--     caps-fit, weights-fit     the sums fit
--     place_in, kept_in, kept-fits     places are below 256, and so is the number of who stays
use Prim.Native.Nat.{ℕ, zero, suc, ◌+◌, ◌-◌, ◌*◌, ◌^◌, ◌≤◌, ◌<◌}
use mathlib.Core.Path.{◌≡◌, refl, ap, sym, ◌∙◌, subst}
use mathlib.Core.Logic.{◌⊎◌, inl, inr, ⊎_elim}
use mathlib.Core.Bool.{Bool, true, false, cond, not}
use mathlib.Core.List.{List}
use native.Mathlib.Nat.{le_refl}
use native.Mathlib.Numerals.{add-one}
use native.Mathlib.Omega.{arith}
use lib.Dec.{leb, ltb, eqb}
use lib.ListN.{length, set}
use lib.Seq.{get_or-set_other}
use borrow.Author.Tests.{eqb-true}
use Rattle.columns.specs.Lists.{Lists}
use Rattle.columns.specs.Sum.{bit, sum_to, count_to, sum_where}
use Rattle.columns.specs.Table.{at}
use Rattle.columns.proofs.First.{left-true}
use Rattle.columns.proofs.Product.{product}
use Rattle.columns.proofs.Sum.{count_next, count-le, count-before}
use Rattle.columns.proofs.Table.{table_is}
use Rattle.columns.proofs.Fill.{Reached, reached-none, reached-next, reached-same}
use Rattle.columns.proofs.Mask.{where_next, where-bound, count-parts}
use Rattle.columns.proofs.Rank.{test-or}
use Rattle.levy.specs.Rounds.{Standing, is_open, closes, next}
use Rattle.levy.specs.Asked.{standing_now, Round, Shut}
use Rattle.levy.proofs.Step.{closed_is, open-parts}
use Rattle.columns.proofs.Listed.{lists-none, lists-quiet, lists-next}

module _ (ws cs marks₀ : List ℕ) (money weight rounds : ℕ) (list₀ : List ℕ) where
  abbrev n : ℕ
  n = length ws

  abbrev st : Standing
  st = standing_now marks₀ money weight rounds

  -- who is open, who closes, who stays open, and everybody's mark after the round
  abbrev was : ℕ → Bool
  was = is_open ws marks₀

  abbrev hit : ℕ → Bool
  hit = closes ws cs st

  abbrev stays : ℕ → Bool
  stays = is_open ws (next ws cs st).marks

  abbrev mark : ℕ → ℕ
  mark i = cond (hit i) (suc rounds) (at marks₀ i)

  -- p and g are the caps and the weights that have closed, k is how many stay, j how many were open
  pub record Turn (marks list : List ℕ) (p g k j i : ℕ) : Type 0 where
    pub within : i ≤ n
    pub caps_are : p ≡ sum_where i hit (at cs)
    pub weights_are : g ≡ sum_where i hit (at ws)
    pub reached : Reached 0 mark marks₀ marks i
    pub kept : Lists i stays list k
    pub passed : j ≡ count_to i was
    pub coming : (q : ℕ) → j ≤ q → at list q ≡ at list₀ q

  pub record Pass (marks list : List ℕ) (p g k j : ℕ) : Type 0 where
    pub i : ℕ
    pub turn : Turn marks list p g k j i
    pub ahead : ((i < n) × (was i ≡ true)) ⊎ (i ≡ n)

  module _ (m : ℕ) (asked : Round ws cs marks₀ money weight list₀ m) where
    -- who is open stays so or closes
    parts : (i : ℕ) → i < n → bit (was i) ≡ bit (stays i) + bit (hit i)
    parts i l = open-parts ws cs st bit refl i l

    pub place_in : (j : ℕ) → j < m → j < 256
    place_in j l = omega (arith, asked.listed.many, count-le n was, asked.held.few)

    -- ---- from one position to the next

    turn-none : Turn marks₀ list₀ 0 0 0 0 0
    turn-none =
        record {
          within = omega arith;
          caps_are = unfold sum_where sum_to in refl;
          weights_are = unfold sum_where sum_to in refl;
          reached = reached-none 0 mark marks₀;
          kept = lists-none stays list₀ asked.listed.long;
          passed = unfold count_to sum_to in refl;
          coming = λ q l. refl;
        }

    module _ (marks list : List ℕ) (p g k j i : ℕ) (turn : Turn marks list p g k j i) (l : i < n) where
      -- a position that is not open: nothing changes
      turn-quiet : was i ≡ false → Turn marks list p g k j (i + 1)
      turn-quiet off =
          record {
            within = omega arith;
            caps_are = omega (arith, turn.caps_are, where_next i hit (at cs), none (at cs i));
            weights_are = omega (arith, turn.weights_are, where_next i hit (at ws), none (at ws i));
            reached =
                reached-same 0 mark marks₀ marks i turn.reached (omega (arith, asked.held.marks_long)) (rw quiet);
            kept = lists-quiet stays list k i turn.kept (no (stays i) (omega (arith, parts i l, ap bit off)));
            passed = omega (arith, turn.passed, count_next i was, ap bit off);
            coming = turn.coming;
          }
        where
          no : (t : Bool) → bit t ≤ 0 → t ≡ false
          no true z = absurd (omega arith)
          no false z = refl

          quiet : hit i ≡ false
          quiet = no (hit i) (omega (arith, parts i l, ap bit off))

          none : (x : ℕ) → cond (hit i) x 0 ≡ 0
          none x = rw quiet

    -- from any position on to the next open one
    advance : (marks list : List ℕ) (p g k j d i : ℕ) → i + d ≡ n → Turn marks list p g k j i
        → Pass marks list p g k j
    advance marks list p g k j zero i e turn = record { i = i; turn = turn; ahead = inr (omega arith) }
    advance marks list p g k j (suc d) i e turn =
        ⊎_elim (λ (on : was i ≡ true). record { i = i; turn = turn; ahead = inl (omega arith, on) })
        (λ (off : was i ≡ false). advance marks list p g k j d (i + 1) (omega arith) (turn-quiet marks list p g k j i turn (omega arith) off))
        (test-or (was i))

    pub pass-none : Pass marks₀ list₀ 0 0 0 0
    pass-none = advance marks₀ list₀ 0 0 0 0 n 0 (omega arith) turn-none

    module _ (marks list : List ℕ) (p g k j : ℕ) (pass : Pass marks list p g k j) where
      pub pass-end : m ≤ j
          → Shut ws cs st marks list (record { caps = record { 0 = p }; weights = g; left = k })
      pass-end q =
          record {
            marks_are = marks_are;
            caps_are = turn.caps_are ∙ sym (closed_is ws cs st cs);
            weights_are = turn.weights_are ∙ sym (closed_is ws cs st ws);
            listed = rw marks_are turn.kept;
          }
        where
          ended : pass.i ≡ n
          ended =
              ⊎_elim
              (λ (h : (pass.i < n) × (was pass.i ≡ true)).
              absurd (omega (arith, pass.turn.passed, asked.listed.many, count-before was pass.i n h.0 h.1)))
              (λ e. e) pass.ahead

          turn : Turn marks list p g k j n
          turn = subst (Turn marks list p g k j) ended pass.turn

          marks_are : marks ≡ (next ws cs st).marks
          marks_are = unfold next in table_is 0 marks n mark (turn.reached.room ∙ asked.held.marks_long) turn.reached.done

      pub caps-fit : (r : ℕ) → r < 2 ^ 32 → p + r < 2 ^ 64
      caps-fit r small =
          omega (
            arith,
            pass.turn.caps_are,
            pass.turn.within,
            asked.held.few,
            where-bound pass.i 44000000 hit (at cs) (λ q _. asked.held.low q),
          )

      pub weights-fit : (r : ℕ) → r < 2 ^ 32 → g + r < 2 ^ 64
      weights-fit r small =
          omega (
            arith,
            pass.turn.weights_are,
            pass.turn.within,
            asked.held.few,
            where-bound pass.i 550000000 hit (at ws) (λ q _. asked.held.light q),
          )

      -- at place j stands the next open position
      module _ (l : j < m) (x : ℕ) (x-is : x ≡ at list j) where
        next-open : (pass.i < n) × (was pass.i ≡ true)
        next-open =
            ⊎_elim (λ h. h)
            (λ (e : pass.i ≡ n). absurd (omega (arith, pass.turn.passed, asked.listed.many, ap (λ (q : ℕ). count_to q was) e)))
            pass.ahead

        here : x ≡ pass.i
        here =
            x-is ∙ pass.turn.coming j (le_refl j) ∙ ap (at list₀) pass.turn.passed
            ∙ asked.listed.places pass.i next-open.0 next-open.1

        turn : Turn marks list p g k j x
        turn = rw here pass.turn

        inside : x < n
        inside = rw here next-open.0

        on : was x ≡ true
        on = rw here next-open.1

        pub products : (at cs x * weight < 2 ^ 63) × (money * at ws x < 2 ^ 63)
        products = (
          product 44000000 140800000000 (2 ^ 63) (asked.held.low x) asked.heavy tt,
          product 6400000000 550000000 (2 ^ 63) asked.held.rich (asked.held.light x) tt,
        )

        -- the test on what the code reads is the test of the definition
        hit-is : leb (at cs x * weight) (money * at ws x) ≡ hit x
        unfolding closes
        hit-is = rw on

        unmarked : at marks₀ x ≡ 0
        unmarked = eqb-true (at marks₀ x) 0 (left-true (eqb (at marks₀ x) 0) (ltb 0 (at ws x)) on)

        -- no more stay than were open
        fewer : k ≤ j
        fewer =
            omega (
              arith,
              turn.kept.many,
              turn.passed,
              count-parts x was stays hit (λ q l. parts q (omega (arith, inside))),
            )

        pub kept_in : k < 256
        kept_in = omega (arith, fewer, place_in j l)

        pub kept-fits : (b : ℕ) → b ≤ 1 → k + b < 2 ^ 64
        kept-fits b le = omega (arith, kept_in)

        sum_step : (xs : List ℕ) (t : Bool) → t ≡ hit x → (r : ℕ) → r ≡ cond t (at xs x) 0 → (sum : ℕ)
            → sum ≡ sum_where x hit (at xs) → sum + r ≡ sum_where (x + 1) hit (at xs)
        sum_step xs t e r r-is sum sum_is_lem =
            let new : cond (hit x) (at xs x) 0 ≡ r = rw (← e) (sym r-is) in
            omega (arith, where_next x hit (at xs))

        one : (t : Bool) → bit (not t) + bit t ≡ 1
        one true = refl
        one false = refl

        pub pass-next : (t : Bool) → t ≡ leb (at cs x * weight) (money * at ws x)
            → (r : ℕ) → r ≡ cond t (at cs x) 0 → (s : ℕ) → s ≡ cond t (at ws x) 0
            → (v : ℕ) → v ≡ cond t (rounds + 1) 0 → (b : ℕ) → b ≡ bit (not t)
            → Pass (set marks x v) (set list k (at list j)) (p + r) (g + s) (k + b) (j + 1)
        pass-next t is r r-is s s-is v v-is b b-is =
            let e : t ≡ hit x = is ∙ hit-is in
            advance (set marks x v) (set list k (at list j)) (p + r) (g + s) (k + b) (j + 1) (n - (x + 1)) (x + 1) (omega (arith, inside))
            (record {
              within = omega (arith, inside);
              caps_are = sum_step cs t e r r-is p turn.caps_are;
              weights_are = sum_step ws t e s s-is g turn.weights_are;
              reached =
                  reached-next 0 mark marks₀ marks x v turn.reached
                  (omega (arith, inside, turn.reached.room, asked.held.marks_long))
                  (rw (← e, unmarked, ← (add-one rounds)) v-is);
              kept = rw (← x-is) (lists-next stays list k x turn.kept (omega (arith, inside, asked.held.few)) b
                  (omega (arith, b-is, one t, parts x inside, ap bit e, ap bit on)));
              passed = omega (arith, turn.passed, count_next x was, ap bit on);
              coming = λ q l. get_or-set_other list k q (at list j) 0 (omega (arith, fewer)) ∙ turn.coming q (omega arith);
            })
