-- Redistribution, one call of it: what it finds, what it hands to the call of itself, and what it answers. `Ready` is asked of
-- each call, `Shut` is what the round has answered, `Ended` what the call answers.
--     round-asked            what the round asks
--     caps-in, weights-in    what closes is at most what there is
--     left_less              fewer payers are open, if somebody closed
--     ready-again            what the next call asks
--     stopped                the answer, if nobody closed
--     went_on                the answer, from the answer of the next call
--     rounds-begin           what the first call asks
--     visits-asked           what the count of visits asks
--     rounds-end             the answer of all rounds
use Prim.Native.Nat.{ℕ, suc, ◌+◌, ◌-◌, ◌*◌, ◌≤◌, ◌<◌}
use mathlib.Core.Path.{◌≡◌, refl, ap, sym, ◌∙◌, subst}
use mathlib.Core.Bool.{Bool, cond}
use mathlib.Core.List.{List, ◌++◌}
use native.Mathlib.Numerals.{add-one}
use native.Mathlib.Omega.{arith}
use lib.ListN.{length, take, drop, replicate}
use lib.Seq.{length-take-le, take-append_seam}
use Rattle.std.proofs.lemmas.List.{length-append, length-drop}
use Rattle.std.proofs.lemmas.Slice.{drop-append-drop}
use Rattle.columns.specs.Lists.{Lists}
use Rattle.columns.specs.Sum.{whole, count_to, sum_where}
use Rattle.columns.specs.Table.{at}
use Rattle.columns.proofs.Sum.{sum_bound, count-le, count-zero}
use Rattle.columns.proofs.Table.{table_is}
use Rattle.levy.specs.Rounds.{Standing, is_payer, is_open, opens, closes, closed, next, run, opening, final, visits_told}
use Rattle.levy.specs.Capped.{has_closed}
use Rattle.levy.specs.Asked.{standing_now, Levyable, Listed, Round, Shut, Ready, Ended, Countable, Finished}
use Rattle.levy.specs.declared.Closed.{Closed}
use Rattle.levy.proofs.Arrays.{zeros-at, zeros-are, take-replicate, drop-replicate}
use Rattle.levy.proofs.Step.{Sound, sound-weight, closed-nobody, closed-somebody, closed-caps-le, closed-weights-le, next-sound, opening-sound}
use Rattle.levy.proofs.Step.{opens-fall, opens-le, run-stop, run-again, final-run}
use Rattle.levy.proofs.Count.{marks-rounds}
use Rattle.levy.proofs.Visits.{visits-told}

-- where nobody closes no mark changes
same-marks : (ws cs : List ℕ) (st : Standing) → length st.marks ≡ length ws → closed ws cs st ws ≡ 0 → (next ws cs st).marks ≡ st.marks
unfolding next
same-marks ws cs st long e =
    sym (table_is 0 st.marks (length ws) (λ i. cond (closes ws cs st i) (suc st.rounds) (at st.marks i)) long
    (λ k l. rw (count-zero (length ws) (closes ws cs st) (closed-nobody ws cs st e) k l)))

-- as many are listed as are open
listed-opens : (ws marks list : List ℕ) (m : ℕ) → Listed ws marks list m → m ≡ opens ws marks
unfolding opens
listed-opens ws marks list m listed = listed.many

module _ (ws cs marks : List ℕ) (money weight rounds : ℕ) (list : List ℕ) (m : ℕ)
    (asked : Ready ws cs marks money weight rounds list m) where
  abbrev st : Standing
  st = standing_now marks money weight rounds

  total : ℕ
  total = money + sum_where (length ws) (has_closed marks) (at cs)

  sound : Sound total ws cs (standing_now marks money weight rounds)
  unfolding total
  sound =
      record {
        long = asked.held.marks_long;
        weight_is = asked.weight_is;
        money_is = refl;
        marks_le = asked.marks_le;
        payers = asked.payers;
      }

  whole_le : whole ws ≤ 550000000 * length ws
  unfolding whole
  whole_le = sum_bound (length ws) 550000000 (at ws) (λ k l. asked.held.light k)

  heavy : weight ≤ 140800000000
  heavy = omega (arith, asked.held.few, sound-weight total ws cs st sound, whole_le)

  pub round-asked : Round ws cs marks money weight list m
  round-asked = record { held = asked.held; heavy = heavy; listed = asked.listed }

  module _ (after kept : List ℕ) (r : Closed) (shut : Shut ws cs (standing_now marks money weight rounds) after kept r) where
    pub caps-in : r.caps.0 ≤ money
    caps-in = omega (arith, shut.caps_are, closed-caps-le total ws cs st sound)

    pub weights-in : r.weights ≤ weight
    weights-in = omega (arith, shut.weights_are, closed-weights-le total ws cs st sound)

    pub stopped : r.weights ≡ 0 → Ended ws cs (standing_now marks money weight rounds) after money weight rounds
    stopped none =
        record {
          is = λ f l. run-stop ws cs st (closed-nobody ws cs st shut_none) f
              ∙ ap (λ (ks : List ℕ). record { marks = ks; money = money; weight = weight; rounds = rounds })
              (sym (shut.marks_are ∙ same-marks ws cs st sound.long shut_none));
          early = omega (arith, asked.early);
        }
      where
        shut_none : closed ws cs st ws ≡ 0
        shut_none = sym shut.weights_are ∙ none

    module _ (some : r.weights ≡ 0 → ⊥) where
      closing : 0 < count_to (length ws) (closes ws cs st)
      closing = closed-somebody ws cs st (λ e. some (shut.weights_are ∙ e))

      step_is : standing_now after (money - r.caps.0) (weight - r.weights) (rounds + 1)
          ≡ next ws cs (standing_now marks money weight rounds)
      unfolding next
      step_is = rw (shut.marks_are, shut.caps_are, shut.weights_are, add-one rounds)

      after-sound : Sound total ws cs (standing_now after (money - r.caps.0) (weight - r.weights) (rounds + 1))
      after-sound = subst (Sound total ws cs) (sym step_is) (next-sound total ws cs st sound)

      fewer : opens ws after < opens ws marks
      fewer = rw shut.marks_are (omega (arith, closing, opens-fall ws cs st))

      pub left_less : (t : ℕ) → m ≡ t → r.left < t
      left_less t e =
          omega (arith, fewer, listed-opens ws marks list m asked.listed, listed-opens ws after kept r.left shut.listed)

      pub ready-again : (left : ℕ) → left ≡ money - r.caps.0 → Ready ws cs after left (weight - r.weights) (rounds + 1) kept r.left
      ready-again left is =
          record {
            held =
                record {
                  few = asked.held.few;
                  caps_long = asked.held.caps_long;
                  marks_long = after-sound.long;
                  light = asked.held.light;
                  low = asked.held.low;
                  rich = omega (arith, is, asked.held.rich);
                };
            weight_is = after-sound.weight_is;
            marks_le = after-sound.marks_le;
            payers = after-sound.payers;
            early = omega (arith, asked.early, left_less m refl);
            listed = shut.listed;
          }

      pub went_on : (left : ℕ) → left ≡ money - r.caps.0 → (end : List ℕ) (left_last weight_last rounds_last : ℕ)
          → Ended ws cs (standing_now after left (weight - r.weights) (rounds + 1)) end left_last weight_last rounds_last
          → Ended ws cs (standing_now marks money weight rounds) end left_last weight_last rounds_last
      went_on left is end left_last weight_last rounds_last ended =
          record {
            is = run-again ws cs st (standing_now end left_last weight_last rounds_last) closing
                (λ f l. ap (run f ws cs) (sym step_is) ∙ (rw is at (ended.is f (rw shut.marks_are l))));
            early = ended.early;
          }

-- all marks are 0 before the first round
module _ (total n : ℕ) (weights caps marks : List ℕ) (asked : Levyable n weights caps marks total)
    (weight : ℕ) (weight_is : weight ≡ whole (take n weights)) where
  first-long : length (take n weights) ≡ n
  first-long = length-take-le n weights (omega (arith, asked.held.few, asked.held.weights_long))

  zeros : marks ≡ replicate 256 0
  zeros = zeros-are marks asked.held.marks_long asked.blank

  few : n ≤ 256
  few = asked.held.few

  begin-is : standing_now (take n marks) total weight 0 ≡ opening total (take n weights)
  unfolding opening
  begin-is = rw (first-long, weight_is, zeros, take-replicate 256 n few)

  begin-sound : Sound total (take n weights) (take n caps) (standing_now (take n marks) total weight 0)
  begin-sound = subst (Sound total (take n weights) (take n caps)) (sym begin-is) (opening-sound total (take n weights) (take n caps))

  -- nobody has closed, so that every payer is open
  all-open : (i : ℕ) → is_open (take n weights) (take n marks) i ≡ is_payer (take n weights) i
  all-open i = rw (zeros, take-replicate 256 n few, zeros-at n i)

  pub rounds-begin : (list : List ℕ) (m : ℕ) → Lists (length (take n weights)) (is_payer (take n weights)) list m
      → Ready (take n weights) (take n caps) (take n marks) total weight 0 list m
  rounds-begin list m lists =
      record {
        held =
            record {
              few = omega (arith, first-long, few);
              caps_long = length-take-le n caps (omega (arith, few, asked.held.caps_long)) ∙ sym first-long;
              marks_long = begin-sound.long;
              light = asked.held.light;
              low = asked.held.low;
              rich = asked.held.rich;
            };
        weight_is = begin-sound.weight_is;
        marks_le = begin-sound.marks_le;
        payers = begin-sound.payers;
        early = omega (arith, lists.many, count-le (length (take n weights)) (is_payer (take n weights)), first-long, few);
        listed = subst (λ (test : ℕ → Bool). Lists (length (take n weights)) test list m) (λ j i. sym (all-open i) j) lists;
      }

  module _ (end : List ℕ) (left_last weight_last rounds_last : ℕ)
      (ended : Ended (take n weights) (take n caps) (standing_now (take n marks) total weight 0) end left_last weight_last rounds_last)
      (kept : length end ≡ length (take n marks)) where
    end_is : standing_now end left_last weight_last rounds_last ≡ final total (take n weights) (take n caps)
    end_is =
        sym (ended.is (length (take n weights)) (opens-le (take n weights) (take n marks)))
        ∙ ap (run (length (take n weights)) (take n weights) (take n caps)) begin-is
        ∙ final-run total (take n weights) (take n caps) (length (take n weights))
        (opens-le (take n weights) (opening total (take n weights)).marks)

    end-long : length end ≡ n
    end-long = kept ∙ length-take-le n marks (omega (arith, few, asked.held.marks_long))

    module _ (count : ℕ) (count-is : count ≡ rounds_last) where
      pub visits-asked : Countable (take n weights) end count
      visits-asked =
          record {
            few = omega (arith, first-long, few);
            marks_long = end-long ∙ sym first-long;
            marks_le = λ i. rw count-is (subst (λ (st : Standing). at st.marks i ≤ st.rounds) (sym end_is) (marks-rounds total (take n weights) (take n caps) i));
            early = rw count-is ended.early;
          }

      -- what is lent back is the end's marks, with the rest of the array behind them
      pub rounds-end : (counted : ℕ) → counted ≡ visits_told (take n weights) end count
          → Finished total n weights caps (end ++ drop n marks)
          (record { money = record { 0 = left_last }; weight = weight_last; rounds = rounds_last; visits = counted })
      rounds-end counted told =
          record {
            is = ap (λ (ks : List ℕ). standing_now ks left_last weight_last rounds_last) front ∙ end_is;
            visits_are =
                told ∙ ap (visits_told (take n weights) end) count-is
                ∙ ap (λ (st : Standing). visits_told (take n weights) st.marks st.rounds) end_is
                ∙ sym (visits-told total (take n weights) (take n caps));
            past = back ∙ rw zeros (drop-replicate 256 n few);
            long = omega (arith, length-append end (drop n marks), length-drop n marks, end-long, few, asked.held.marks_long);
          }
        where
          front : take n (end ++ drop n marks) ≡ end
          front = ap (λ (k : ℕ). take k (end ++ drop n marks)) (sym end-long) ∙ take-append_seam end (drop n marks)

          back : drop n (end ++ drop n marks) ≡ drop n marks
          back = drop-append-drop n marks end n (omega arith) end-long
