-- One round, and the run of rounds: what always holds between two rounds, and how `run` goes on and stops.
--     Sound               how a standing hangs together with total, weights and caps
--     closed-up           who has closed has a mark above 0
--     sound-caps          the money and the caps of those that closed are the total
--     sound-weight        the open weight is at most the whole weight
--     opening-sound       it holds before the first round
--     next-sound          a round keeps it
--     run_sound           so does any number of rounds
--     final-sound         it holds after the last round
--     closed-weights-le   the weights that close are at most the open weight
--     closed-caps-le      the caps that close are at most the money
--     closed-cross        their caps together, as one payer, owe at least their cap
--     mark-next           everybody's mark after a round
--     inside-weight       whoever has weight stands in the column
--     closed-nobody       no weight closes: nobody does
--     closed-somebody     some weight closes: somebody does
--     open-parts          who is open stays open or closes
--     opens-fall          so the open payers fall by as many as close
--     run-stop            where nobody closes, rounds stop, however many are allowed
--     run_more            where somebody closes, the next round follows
--     run-again           what the rounds that follow come to, all rounds come to
--     run-enough          from as many rounds as there are open payers on, more make no difference
--     final-run           the last standing, with any such number of rounds
--     run-keeps           what each round keeps, all rounds keep
--     run_ends            after enough rounds nobody closes
use Prim.Native.Nat.{ℕ, zero, suc, ◌+◌, ◌-◌, ◌*◌, ◌≤◌, ◌<◌}
use mathlib.Core.Path.{◌≡◌, refl, ap, sym, ◌∙◌}
use mathlib.Core.Logic.{⊎_elim}
use mathlib.Core.Bool.{Bool, true, false, cond, ◌&&◌, not}
use mathlib.Core.List.{List}
use native.Mathlib.Nat.{eq-zero-or-pos, mul-le-mul_left, le_of_mul-le-mul_right}
use native.Mathlib.Omega.{arith}
use lib.Dec.{leb, ltb, eqb}
use lib.ListN.{length, length-replicate, get_or-eq_default}
use borrow.Author.Tests.{lt-ltb, ltb-true, leb-true, eq-eqb, ne_eqb, eqb-false, not-true}
use Rattle.columns.specs.Sum.{bit, whole, count_to, sum_where}
use Rattle.columns.specs.Table.{at}
use Rattle.columns.proofs.First.{left-true, right-true, and-false}
use Rattle.columns.proofs.Sum.{lt-or-le, count-le, count_none, count-zero}
use Rattle.columns.proofs.Mask.{where-same, where-parts, where-sub, where-whole, where-none, where-all, where-cross, where-term, count-parts}
use Rattle.columns.proofs.Table.{table-length, table_at, table-past}
use Rattle.columns.proofs.Rank.{test-or}
use Rattle.levy.specs.Rounds.{Standing, is_open, opens, closes, closed, next, run, opening, final}
use Rattle.levy.specs.Capped.{has_closed, inside, caps_inside}
use Rattle.levy.proofs.Arrays.{zeros-at}

-- position i has not closed
abbrev pub not_closed : List ℕ → ℕ → Bool
not_closed marks i = eqb (at marks i) 0

pub record Sound (total : ℕ) (ws cs : List ℕ) (st : Standing) : Type 0 where
  pub long : length st.marks ≡ length ws
  pub weight_is : st.weight ≡ sum_where (length ws) (not_closed st.marks) (at ws)
  pub money_is : st.money + sum_where (length ws) (has_closed st.marks) (at cs) ≡ total
  pub marks_le : (i : ℕ) → at st.marks i ≤ st.rounds
  pub payers : (i : ℕ) → 0 < at st.marks i → 0 < at ws i

pub closed-up : (marks : List ℕ) (i : ℕ) → has_closed marks i ≡ true → 0 < at marks i
closed-up marks i e =
    ⊎_elim (λ (z : at marks i ≡ 0). absurd (eqb-false (at marks i) 0 (not-true (eqb (at marks i) 0) e) z)) (λ up. up) (eq-zero-or-pos (at marks i))

-- whoever has weight stands in the column
pub inside-weight : (ws : List ℕ) (i : ℕ) → 0 < at ws i → i < length ws
inside-weight ws i some =
    ⊎_elim (λ (l : i < length ws). l) (λ (l : length ws ≤ i). absurd (omega (arith, get_or-eq_default ws 0 l))) (lt-or-le i (length ws))

module _ (ws cs : List ℕ) (st : Standing) where
  -- whoever closes was open, had weight, and owes its cap at least
  pub closes-open : (i : ℕ) → closes ws cs st i ≡ true → is_open ws st.marks i ≡ true
  unfolding closes
  closes-open i e = left-true (is_open ws st.marks i) (leb (at cs i * st.weight) (st.money * at ws i)) e

  pub closes-not-yet : (i : ℕ) → closes ws cs st i ≡ true → not_closed st.marks i ≡ true
  closes-not-yet i e = left-true (eqb (at st.marks i) 0) (ltb 0 (at ws i)) (closes-open i e)

  pub closes-weight : (i : ℕ) → closes ws cs st i ≡ true → 0 < at ws i
  closes-weight i e = ltb-true 0 (at ws i) (right-true (eqb (at st.marks i) 0) (ltb 0 (at ws i)) (closes-open i e))

  pub closes-owe : (i : ℕ) → closes ws cs st i ≡ true → at cs i * st.weight ≤ st.money * at ws i
  unfolding closes
  closes-owe i e = leb-true (at cs i * st.weight) (st.money * at ws i) (right-true (is_open ws st.marks i) (leb (at cs i * st.weight) (st.money * at ws i)) e)

  pub closed_is : (xs : List ℕ) → closed ws cs st xs ≡ sum_where (length ws) (closes ws cs st) (at xs)
  unfolding closed sum_where
  closed_is xs = refl

  pub closed-cross : closed ws cs st cs * st.weight ≤ st.money * closed ws cs st ws
  closed-cross =
      rw (closed_is cs, closed_is ws)
      (omega (arith, where-cross (length ws) (closes ws cs st) st.weight st.money (at cs) (at ws) (λ i l e. omega (arith, closes-owe i e))))

  pub mark-next : (i : ℕ) → i < length ws → at (next ws cs st).marks i ≡ cond (closes ws cs st i) (suc st.rounds) (at st.marks i)
  unfolding next
  mark-next i l = table_at 0 (length ws) (λ i. cond (closes ws cs st i) (suc st.rounds) (at st.marks i)) i l

  pub mark-past : (i : ℕ) → length ws ≤ i → at (next ws cs st).marks i ≡ 0
  unfolding next
  mark-past i l = table-past 0 (length ws) (λ i. cond (closes ws cs st i) (suc st.rounds) (at st.marks i)) i l

  pub next-long : length (next ws cs st).marks ≡ length ws
  unfolding next
  next-long = table-length (length ws) (λ i. cond (closes ws cs st i) (suc st.rounds) (at st.marks i))

  pub next-money : (next ws cs st).money ≡ st.money - closed ws cs st cs
  unfolding next
  next-money = refl

  pub next-weight : (next ws cs st).weight ≡ st.weight - closed ws cs st ws
  unfolding next
  next-weight = refl

  pub next-rounds : (next ws cs st).rounds ≡ suc st.rounds
  unfolding next
  next-rounds = refl

  -- said of any figure of a test that is 0 where the test fails
  pub open-parts : (g : Bool → ℕ) → g false ≡ 0 → (i : ℕ) → i < length ws
      → g (is_open ws st.marks i) ≡ g (is_open ws (next ws cs st).marks i) + g (closes ws cs st i)
  open-parts g none i l = rw (mark-next i l) (each (closes ws cs st i) refl)
    where
      each : (t : Bool) → closes ws cs st i ≡ t
          → g (eqb (at st.marks i) 0 && ltb 0 (at ws i)) ≡ g (eqb (cond t (suc st.rounds) (at st.marks i)) 0 && ltb 0 (at ws i)) + g t
      each true e = rw (ne_eqb (suc st.rounds) 0 (omega arith)) (omega (arith, none, ap g (closes-open i e)))
      each false e = omega (arith, none)

  pub opens-fall : opens ws (next ws cs st).marks + count_to (length ws) (closes ws cs st) ≡ opens ws st.marks
  unfolding opens
  opens-fall =
      sym
      (count-parts (length ws) (is_open ws st.marks) (is_open ws (next ws cs st).marks) (closes ws cs st) (open-parts bit refl))

  -- whoever closes has weight, so the weight that closes tells whether anybody does
  pub closed-nobody : closed ws cs st ws ≡ 0 → count_to (length ws) (closes ws cs st) ≡ 0
  closed-nobody e =
      count_none (length ws) (closes ws cs st)
      (λ i l. ⊎_elim
      (λ (t : closes ws cs st i ≡ true).
      absurd (omega (arith, closed_is ws, closes-weight i t, where-term (length ws) (closes ws cs st) (at ws) i l t)))
      (λ t. t) (test-or (closes ws cs st i)))

  pub closed-somebody : (closed ws cs st ws ≡ 0 → ⊥) → 0 < count_to (length ws) (closes ws cs st)
  closed-somebody some =
      ⊎_elim
      (λ (e : count_to (length ws) (closes ws cs st) ≡ 0). absurd (some (closed_is ws ∙ where-none (length ws) (closes ws cs st) (at ws) (count-zero (length ws) (closes ws cs st) e))))
      (λ up. up) (eq-zero-or-pos (count_to (length ws) (closes ws cs st)))

  -- nobody is open: nobody closes
  pub opens-none : opens ws st.marks ≡ 0 → count_to (length ws) (closes ws cs st) ≡ 0
  opens-none e = omega (arith, opens-fall)

pub run-stop : (ws cs : List ℕ) (st : Standing) → count_to (length ws) (closes ws cs st) ≡ 0 → (f : ℕ) → run f ws cs st ≡ st
unfolding run
run-stop ws cs st e zero = refl
run-stop ws cs st e (suc f) = rw (eq-eqb (count_to (length ws) (closes ws cs st)) 0 e)

pub run_more : (ws cs : List ℕ) (st : Standing) → 0 < count_to (length ws) (closes ws cs st) → (f : ℕ) → run (suc f) ws cs st ≡ run f ws cs (next ws cs st)
unfolding run
run_more ws cs st some f = rw (ne_eqb (count_to (length ws) (closes ws cs st)) 0 (omega arith))

pub run-again : (ws cs : List ℕ) (st end : Standing) → 0 < count_to (length ws) (closes ws cs st)
    → ((f : ℕ) → opens ws (next ws cs st).marks ≤ f → run f ws cs (next ws cs st) ≡ end)
    → (f : ℕ) → opens ws st.marks ≤ f → run f ws cs st ≡ end
run-again ws cs st end some h zero l = absurd (omega (arith, opens-fall ws cs st))
run-again ws cs st end some h (suc f) l = run_more ws cs st some f ∙ h f (omega (arith, opens-fall ws cs st))

pub run-keeps : (ws cs : List ℕ) (P : Standing → Type 0) → ((st : Standing) → 0 < count_to (length ws) (closes ws cs st) → P st → P (next ws cs st))
    → (f : ℕ) (st : Standing) → P st → P (run f ws cs st)
run-keeps ws cs P step zero st h = unfold run in h
run-keeps ws cs P step (suc f) st h =
    ⊎_elim (λ (e : count_to (length ws) (closes ws cs st) ≡ 0). rw (run-stop ws cs st e (suc f)) h)
    (λ (some : 0 < count_to (length ws) (closes ws cs st)). rw (run_more ws cs st some f) (run-keeps ws cs P step f (next ws cs st) (step st some h)))
    (eq-zero-or-pos (count_to (length ws) (closes ws cs st)))

pub run-enough : (ws cs : List ℕ) (f g : ℕ) (st : Standing) → opens ws st.marks ≤ f → opens ws st.marks ≤ g → run f ws cs st ≡ run g ws cs st
run-enough ws cs zero g st l m =
    let e : count_to (length ws) (closes ws cs st) ≡ 0 = opens-none ws cs st (omega arith) in
    run-stop ws cs st e zero ∙ sym (run-stop ws cs st e g)
run-enough ws cs (suc f) g st l m =
    ⊎_elim (λ (e : count_to (length ws) (closes ws cs st) ≡ 0). run-stop ws cs st e (suc f) ∙ sym (run-stop ws cs st e g))
    (λ (some : 0 < count_to (length ws) (closes ws cs st)).
    sym (run-again ws cs st (run (suc f) ws cs st) some
    (λ h q. sym (run_more ws cs st some f ∙ run-enough ws cs f h (next ws cs st) (omega (arith, opens-fall ws cs st)) q)) g m))
    (eq-zero-or-pos (count_to (length ws) (closes ws cs st)))

pub run_ends : (ws cs : List ℕ) (f : ℕ) (st : Standing) → opens ws st.marks ≤ f → count_to (length ws) (closes ws cs (run f ws cs st)) ≡ 0
run_ends ws cs zero st l =
    let e : count_to (length ws) (closes ws cs st) ≡ 0 = opens-none ws cs st (omega arith) in
    rw (run-stop ws cs st e zero) e
run_ends ws cs (suc f) st l =
    ⊎_elim (λ (e : count_to (length ws) (closes ws cs st) ≡ 0). rw (run-stop ws cs st e (suc f)) e)
    (λ (some : 0 < count_to (length ws) (closes ws cs st)). rw (run_more ws cs st some f) (run_ends ws cs f (next ws cs st) (omega (arith, opens-fall ws cs st))))
    (eq-zero-or-pos (count_to (length ws) (closes ws cs st)))

pub opens-le : (ws marks : List ℕ) → opens ws marks ≤ length ws
unfolding opens
opens-le ws marks = count-le (length ws) (is_open ws marks)

pub final-run : (total : ℕ) (ws cs : List ℕ) (f : ℕ) → opens ws (opening total ws).marks ≤ f → run f ws cs (opening total ws) ≡ final total ws cs
unfolding final
final-run total ws cs f l = run-enough ws cs f (length ws) (opening total ws) l (opens-le ws (opening total ws).marks)

pub final-ends : (total : ℕ) (ws cs : List ℕ) → count_to (length ws) (closes ws cs (final total ws cs)) ≡ 0
unfolding final
final-ends total ws cs = run_ends ws cs (length ws) (opening total ws) (opens-le ws (opening total ws).marks)

module _ (total : ℕ) (ws cs : List ℕ) where
  -- the weights that close are at most the open weight
  pub closed-weights-le : (st : Standing) → Sound total ws cs st → closed ws cs st ws ≤ st.weight
  closed-weights-le st s =
      omega (
        arith,
        closed_is ws cs st ws,
        s.weight_is,
        where-sub (length ws) (closes ws cs st) (not_closed st.marks) (at ws) (λ i l e. closes-not-yet ws cs st i e),
      )

  -- the caps that close are at most the money
  pub closed-caps-le : (st : Standing) → Sound total ws cs st → closed ws cs st cs ≤ st.money
  closed-caps-le st s =
      ⊎_elim (λ (e : st.weight ≡ 0). omega (arith, none e))
      (λ (some : 0 < st.weight).
      le_of_mul-le-mul_right {k = st.weight} (omega (arith, closed-cross ws cs st, mul-le-mul_left st.money (closed-weights-le st s))) some)
      (eq-zero-or-pos st.weight)
    where
      none : st.weight ≡ 0 → closed ws cs st cs ≡ 0
      none e =
          closed_is ws cs st cs
          ∙ where-none (length ws) (closes ws cs st) (at cs)
          (λ i l. ⊎_elim
          (λ (t : closes ws cs st i ≡ true).
          absurd (omega (arith, s.weight_is, closes-weight ws cs st i t, where-term (length ws) (not_closed st.marks) (at ws) i l (closes-not-yet ws cs st i t))))
          (λ t. t) (test-or (closes ws cs st i)))

  -- the open weight is at most the whole weight, however many have closed
  pub sound-weight : (st : Standing) → Sound total ws cs st → st.weight ≤ whole ws
  unfolding whole
  sound-weight st s = omega (arith, s.weight_is, where-whole (length ws) (not_closed st.marks) (at ws))

  pub sound-caps : (st : Standing) → Sound total ws cs st → st.money + caps_inside ws cs (has_closed st.marks) ≡ total
  unfolding caps_inside
  sound-caps st s =
      ap (λ (x : ℕ). st.money + x)
      (where-same (length ws) (inside ws (has_closed st.marks)) (has_closed st.marks) (at cs) (at cs)
      (λ i l. ⊎_elim
      (λ (e : has_closed st.marks i ≡ true). rw (lt-ltb 0 (at ws i) (s.payers i (closed-up st.marks i e))))
      (λ (e : has_closed st.marks i ≡ false). rw e (and-false (ltb 0 (at ws i)))) (test-or (has_closed st.marks i)))
      (λ i l. refl))
      ∙ s.money_is

  pub next-sound : (st : Standing) → Sound total ws cs st → Sound total ws cs (next ws cs st)
  next-sound st s =
      record {
        long = next-long ws cs st;
        weight_is =
            rw (next-weight ws cs st)
            (omega (
              arith,
              s.weight_is,
              closed_is ws cs st ws,
              where-parts (length ws) (not_closed st.marks) (not_closed (next ws cs st).marks) (closes ws cs st) (at ws)
                  (λ i l. rw (mark-next ws cs st i l) (open-part i (closes ws cs st i) refl)),
            ));
        money_is =
            rw (next-money ws cs st)
            (omega (
              arith,
              s.money_is,
              closed-caps-le st s,
              closed_is ws cs st cs,
              where-parts (length ws) (has_closed (next ws cs st).marks) (has_closed st.marks) (closes ws cs st) (at cs)
                  (λ i l. rw (mark-next ws cs st i l) (shut-part i (closes ws cs st i) refl)),
            ));
        marks_le = λ i. ⊎_elim (λ (l : i < length ws). rw (mark-next ws cs st i l, next-rounds ws cs st) (low i (closes ws cs st i)))
            (λ (l : length ws ≤ i). omega (arith, mark-past ws cs st i l)) (lt-or-le i (length ws));
        payers = λ i. ⊎_elim (λ (l : i < length ws). rw (mark-next ws cs st i l) (weighty i (closes ws cs st i) refl))
            (λ (l : length ws ≤ i) (q : 0 < at (next ws cs st).marks i). absurd (omega (arith, mark-past ws cs st i l))) (lt-or-le i (length ws));
      }
    where
      open-part : (i : ℕ) (t : Bool) → closes ws cs st i ≡ t
          → cond (eqb (at st.marks i) 0) (at ws i) 0 ≡ cond (eqb (cond t (suc st.rounds) (at st.marks i)) 0) (at ws i) 0 + cond t (at ws i) 0
      open-part i true e = rw (closes-not-yet ws cs st i e, ne_eqb (suc st.rounds) 0 (omega arith)) (omega arith)
      open-part i false e = omega arith

      shut-part : (i : ℕ) (t : Bool) → closes ws cs st i ≡ t
          → cond (not (eqb (cond t (suc st.rounds) (at st.marks i)) 0)) (at cs i) 0 ≡ cond (not (eqb (at st.marks i) 0)) (at cs i) 0 + cond t (at cs i) 0
      shut-part i true e = rw (closes-not-yet ws cs st i e, ne_eqb (suc st.rounds) 0 (omega arith)) (omega arith)
      shut-part i false e = omega arith

      low : (i : ℕ) (t : Bool) → cond t (suc st.rounds) (at st.marks i) ≤ suc st.rounds
      low i true = omega arith
      low i false = omega (arith, s.marks_le i)

      weighty : (i : ℕ) (t : Bool) → closes ws cs st i ≡ t → 0 < cond t (suc st.rounds) (at st.marks i) → 0 < at ws i
      weighty i true e q = closes-weight ws cs st i e
      weighty i false e q = s.payers i q

  pub opening-mark : (i : ℕ) → at (opening total ws).marks i ≡ 0
  unfolding opening
  opening-mark i = zeros-at (length ws) i

  pub opening-sound : Sound total ws cs (opening total ws)
  unfolding opening whole
  opening-sound =
      record {
        long = length-replicate {A = ℕ} (length ws) 0;
        weight_is = sym (where-all (length ws) (not_closed (opening total ws).marks) (at ws) (λ i l. rw (opening-mark i)));
        money_is = omega (arith, where-none (length ws) (has_closed (opening total ws).marks) (at cs) (λ i l. rw (opening-mark i)));
        marks_le = λ i. omega (arith, opening-mark i);
        payers = λ i l. absurd (omega (arith, opening-mark i));
      }

  pub run_sound : (f : ℕ) (st : Standing) → Sound total ws cs st → Sound total ws cs (run f ws cs st)
  run_sound = run-keeps ws cs (Sound total ws cs) (λ st some s. next-sound st s)

  pub final-sound : Sound total ws cs (final total ws cs)
  unfolding final
  final-sound = run_sound (length ws) (opening total ws) opening-sound
