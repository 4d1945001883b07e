-- One more over the list, to those above a line: what the proofs of `hand_out` and `serve_above` lean on. Each law has the shape of one
-- fact that the code asks for.
--     liftable, lifted-all      where nobody at the line is served: one more to all above it
--     marks-liftable, marks-all     where some are: one more to all that were marked in turn
--     lifted-in, lifted-fits, lifted-next, lifted-end     the loop that gives it
use Prim.Native.Nat.{ℕ, ◌+◌, ◌^◌, ◌≤◌, ◌<◌}
use mathlib.Core.Path.{◌≡◌, refl, ap, sym, ◌∙◌}
use mathlib.Core.Logic.{◌⊎◌, inl, inr}
use mathlib.Core.Bool.{Bool, true, false, ◌&&◌, ◌||◌}
use mathlib.Core.List.{List}
use native.Mathlib.Omega.{arith}
use lib.Dec.{ltb, eqb}
use lib.ListN.{length, set}
use borrow.Author.Tests.{le-ltb}
use mir.Val.{bool_byte}
use Rattle.columns.specs.Sum.{bit}
use Rattle.columns.specs.Table.{at, table, Below}
use Rattle.columns.proofs.Sum.{count-before}
use Rattle.columns.proofs.Rank.{test-or}
use Rattle.columns.proofs.Table.{table-length, table_at, table_same}
use Rattle.columns.proofs.Listed.{from_bit, Found, Dealt, dealt-now, dealt-next, dealt-all}
use Rattle.share.specs.Share.{turn}
use Rattle.share.specs.Steps.{weighs, entry, place, marked, raised, lifted, start_in, Served, Handable, Liftable}
use Rattle.share.proofs.Packed.{found_listed}
use Rattle.share.proofs.Serving.{passed, before-line}

module _ (ws qs rs list : List ℕ) (W first left low ties : ℕ) (good : Handable ws qs rs list W first left) (line : Served rs left low ties) where
  abbrev start : ℕ
  start = start_in list (length rs) first

  -- who has weight has a place in the list
  entry_in : (i : ℕ) → i < length ws → weighs ws i ≡ true → entry ws i < length rs
  entry_in i l on = omega (arith, good.listed.many, count-before (weighs ws) i (length ws) l on)

  -- the test of who is above a line is that of who is served: so it is for everybody
  lifts : (ts : List ℕ) (k : ℕ) → Below (length rs) (λ j. ltb k (at ts j) ≡ ltb (place rs start j) left)
      → (i : ℕ) → i < length ws → lifted ws qs ts k i ≡ raised ws qs rs list first left i
  unfolding lifted raised
  lifts ts k same i l = ap (λ (t : Bool). at qs i + bit t) (each (test-or (weighs ws i)))
    where
      each : (weighs ws i ≡ true) ⊎ (weighs ws i ≡ false)
          → weighs ws i && ltb k (at ts (entry ws i)) ≡ weighs ws i && ltb (place rs start (entry ws i)) left
      each (inl on) = rw on (same (entry ws i) (entry_in i l on))
      each (inr off) = rw off

  lifting : (ts : List ℕ) (k : ℕ) → length ts ≡ length rs → Below (length rs) (λ j. ltb k (at ts j) ≡ ltb (place rs start j) left)
      → Liftable ws qs ts list k
  lifting ts k long same =
      record {
        short = good.short;
        room = good.room;
        listed = rw long good.listed;
        fits = λ i l. rw (lifts ts k same i l) (good.fits i l);
      }

  lifting-all : (ts : List ℕ) (k : ℕ) → Below (length rs) (λ j. ltb k (at ts j) ≡ ltb (place rs start j) left)
      → (xs : List ℕ) → xs ≡ table (length ws) (lifted ws qs ts k) → xs ≡ table (length ws) (raised ws qs rs list first left)
  lifting-all ts k same xs e = e ∙ table_same (length ws) (lifted ws qs ts k) (raised ws qs rs list first left) (λ i l. lifts ts k same i l)

  -- where nobody at the line is served, to be served is to be above it
  above : ties ≡ 0 → Below (length rs) (λ j. ltb low (at rs j) ≡ ltb (place rs start j) left)
  above none j l =
      alone (ltb low (at rs j)) (eqb (at rs j) low) (passed rs start low (turn (length rs) start j)) ∙ before-line rs start left low ties line j l
    where
      alone : (b c : Bool) (t : ℕ) → b ≡ (b || (c && ltb t ties))
      alone true c t = refl
      alone false true t = sym (le-ltb t ties (omega arith))
      alone false false t = refl

  pub liftable : ties ≡ 0 → Liftable ws qs rs list low
  liftable none = lifting rs low refl (above none)

  pub lifted-all : ties ≡ 0 → (xs : List ℕ) → xs ≡ table (length ws) (lifted ws qs rs low) → xs ≡ table (length ws) (raised ws qs rs list first left)
  lifted-all none = lifting-all rs low (above none)

  -- where turns were gone through, to be served is to be marked
  module _ (s : ℕ) (starts : s ≡ start_in list (length list) first) (ms : List ℕ) (is : ms ≡ table (length rs) (marked rs s left)) where
    s-is : s ≡ start
    s-is = starts ∙ rw good.listed.long

    mark : Below (length rs) (λ j. ltb 0 (at ms j) ≡ ltb (place rs start j) left)
    unfolding marked
    mark j l =
        rw (is, table_at 0 (length rs) (marked rs s left) j l, s-is) (above-none (ltb (place rs start j) left))
      where
        above-none : (b : Bool) → ltb 0 (bit b) ≡ b
        above-none true = refl
        above-none false = refl

    marks_long : length ms ≡ length rs
    marks_long = ap length is ∙ table-length (length rs) (marked rs s left)

    pub marks-liftable : Liftable ws qs ms list 0
    marks-liftable = lifting ms 0 marks_long mark

    pub marks-all : (xs : List ℕ) → xs ≡ table (length ws) (lifted ws qs ms 0) → xs ≡ table (length ws) (raised ws qs rs list first left)
    marks-all = lifting-all ms 0 mark

module _ (ws qs rs list : List ℕ) (low : ℕ) (good : Liftable ws qs rs list low) where
  module _ (xs : List ℕ) (j : ℕ) (dealt : Dealt (length ws) (weighs ws) (lifted ws qs rs low) qs xs j) where
    pub lifted-end : length rs ≤ j → xs ≡ table (length ws) (lifted ws qs rs low)
    unfolding lifted
    lifted-end l =
        dealt-all (length ws) (weighs ws) (lifted ws qs rs low) qs xs j dealt (omega (arith, good.listed.many)) good.room
        (λ i q off. rw off (omega arith))

    module _ (l : j < length rs) (x : ℕ) (x-is : x ≡ at list j) where
      here : Found (length ws) (weighs ws) j x
      here = rw x-is (found_listed ws list (length rs) j good.listed l)

      pub lifted-in : x < length xs
      lifted-in = omega (arith, here.inside, dealt.room, good.room)

      module _ (r more : ℕ) (r-is : r ≡ at rs j) (more-is : more ≡ bool_byte (ltb low r)) where
        lifted-now : at xs x + more ≡ lifted ws qs rs low x
        unfolding lifted
        lifted-now =
            rw (here.passes, here.place)
            (omega (
              arith,
              from_bit (ltb low r) more more-is,
              ap (λ (y : ℕ). bit (ltb low y)) r-is,
              dealt-now (length ws) (weighs ws) (lifted ws qs rs low) qs xs j dealt x here,
            ))

        pub lifted-fits : at xs x + more < 2 ^ 64
        lifted-fits = omega (arith, lifted-now, good.fits x here.inside)

        pub lifted-next : Dealt (length ws) (weighs ws) (lifted ws qs rs low) qs (set xs x (at xs x + more)) (j + 1)
        lifted-next =
            dealt-next (length ws) (weighs ws) (lifted ws qs rs low) qs xs j dealt x (at xs x + more) here (omega (arith, good.room)) lifted-now
