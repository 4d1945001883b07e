-- The cases of the program: their columns are small enough, and what they come to.
--     got-at            a number in a column passes the test for what it is
--     low-at, caps-low  every cap is small: of a list by a computed test, of interval X by its two caps
--     ready, fit-x      a case is fit to be run; interval X is
--     fit               what its rounds ask
--     pay-asked         what its payments ask
--     told, made        what the code answers is the outcome, and the payments, of the case
--     paid-at           one of these payments
--     p1-to-p5          interval X at five tariffs
--     four, four-paid   the case of four rounds, and what is paid in it
use Prim.Native.Nat.{ℕ, zero, suc, ◌≤◌, zero-le}
use mathlib.Core.Path.{◌≡◌, refl, ap, ◌∙◌}
use mathlib.Core.Bool.{Bool, true, ◌&&◌}
use mathlib.Core.List.{List, [], ◌∷◌, ◌++◌}
use lib.Dec.{T, eqb, leb, ltb, leb→le, ltb→lt}
use lib.ListN.{length, take, drop, replicate, length-replicate}
use borrow.Author.Tests.{eq-eqb}
use Rattle.columns.specs.Sum.{sum_to, whole, count_to}
use Rattle.columns.specs.Table.{at, table}
use Rattle.columns.proofs.First.{both_left, both_right}
use Rattle.share.specs.Share.{quota, rest, turn, before, rank, left, share}
use Rattle.levy.specs.Rounds.{Standing, opens, closes, closed, next, run, opening, final, visits_from, visits, open_weights, paid, payments, shortfall}
use Rattle.levy.specs.Asked.{standing_of, Levyable, Finished, Short, Payable}
use Rattle.levy.specs.declared.Rest.{Rest}
use Rattle.levy.proofs.Arrays.{zeros-at}
use Rattle.levy.proofs.Making.{payable}
use Rattle.levy_try.specs.Shown.{Case, Worked, outcome, paid_in, caps_x}

pub got-at : (i : ℕ) (xs mid ys : List ℕ) → xs ≡ mid → mid ≡ ys → eqb (at xs i) (at ys i) ≡ true
got-at i xs mid ys e f = rw (e ∙ f) (eq-eqb (at ys i) (at ys i) refl)

-- every number of a list is at most k
abbrev pub lows : ℕ → List ℕ → Bool
lows k [] = true
lows k (x ∷ xs) = leb x k && lows k xs

pub low-at : (k : ℕ) (xs : List ℕ) → T (lows k xs) → (i : ℕ) → at xs i ≤ k
low-at k [] t i = zero-le
low-at k (x ∷ xs) t zero = leb→le x k (both_left (leb x k) (lows k xs) t)
low-at k (x ∷ xs) t (suc i) = low-at k xs (both_right (leb x k) (lows k xs) t) i

pub caps-low : (cap2 cap3 : ℕ) → cap2 ≤ 44000000 → cap3 ≤ 44000000 → (i : ℕ) → at (caps_x cap2 cap3) i ≤ 44000000
caps-low cap2 cap3 low2 low3 zero = zero-le
caps-low cap2 cap3 low2 low3 (suc zero) = low2
caps-low cap2 cap3 low2 low3 (suc (suc zero)) = low3
caps-low cap2 cap3 low2 low3 (suc (suc (suc i))) = zero-le

pub ready : (total n : ℕ) (weights caps : List ℕ) → T (leb n 256) → length weights ≡ 256 → length caps ≡ 256
    → T (lows 550000000 (take n weights)) → ((i : ℕ) → at (take n caps) i ≤ 44000000) → T (leb total 6400000000) → T (ltb 0 n)
    → Case total n weights caps
ready total n weights caps few long wide light low rich some =
    record {
      fit =
          record {
            held =
                record {
                  few = leb→le n 256 few;
                  weights_long = long;
                  caps_long = wide;
                  marks_long = length-replicate {A = ℕ} 256 0;
                  light = low-at 550000000 (take n weights) light;
                  low = low;
                  rich = leb→le total 6400000000 rich;
                };
            blank = zeros-at 256;
          };
      some = ltb→lt 0 n some;
    }

-- interval X's columns, in arrays of 256
pub fit-x : (cap2 cap3 rounds seen short paid2 paid3 : ℕ) → Worked cap2 cap3 rounds seen short paid2 paid3
    → Case 90000 3 (0 ∷ 15000 ∷ 5000 ∷ replicate 253 0) (0 ∷ cap2 ∷ cap3 ∷ replicate 253 0)
fit-x cap2 cap3 rounds seen short paid2 paid3 w =
    ready 90000 3 (0 ∷ 15000 ∷ 5000 ∷ replicate 253 0) (0 ∷ cap2 ∷ cap3 ∷ replicate 253 0) tt refl refl tt
    (caps-low cap2 cap3 w.low2 w.low3) tt tt

module _ (total n : ℕ) (weights caps : List ℕ) (asked : Case total n weights caps) where
  pub fit : (marks : List ℕ) → marks ≡ replicate 256 0 → Levyable n weights caps marks total
  fit marks blank = rw blank asked.fit

  pub pay-asked : (marks : List ℕ) (r : Rest) → Finished total n weights caps marks r → Payable n weights caps marks r 0
  pay-asked marks r ended = payable total n weights caps (replicate 256 0) marks r asked.fit ended 0 (λ l. l)

pub told : (total n : ℕ) (weights caps marks : List ℕ) (r : Rest) → Finished total n weights caps marks r → (x : ℕ) → Short r x
    → r.rounds ∷ r.visits ∷ x ∷ [] ≡ outcome total (take n weights) (take n caps)
unfolding outcome
told total n weights caps marks r ended x short =
    rw (short n marks, ended.visits_are)
    (ap (λ (st : Standing). st.rounds ∷ visits total (take n weights) (take n caps) ∷ shortfall st ∷ []) ended.is)

pub made : (total n : ℕ) (weights caps marks : List ℕ) (r : Rest) → Finished total n weights caps marks r → (paid : List ℕ)
    → paid ≡ payments (take n weights) (take n caps) (standing_of n marks r) 0 ++ drop n caps
    → paid ≡ paid_in total (take n weights) (take n caps) ++ drop n caps
unfolding paid_in
made total n weights caps marks r ended paid is =
    is ∙ ap (λ (st : Standing). payments (take n weights) (take n caps) st 0 ++ drop n caps) ended.is

-- a payment, of an array in which payments stand in front
pub paid-at : (i : ℕ) (xs paid ys past : List ℕ) → xs ≡ paid ++ past → paid ≡ ys → eqb (at xs i) (at (ys ++ past) i) ≡ true
paid-at i xs paid ys past e f = got-at i xs (paid ++ past) (ys ++ past) e (ap (λ (zs : List ℕ). zs ++ past) f)

-- caps that are small by a computed test, and figures that the definitions come to
worked : (cap2 cap3 rounds seen short paid2 paid3 : ℕ) → T (leb cap2 44000000) → T (leb cap3 44000000)
    → outcome 90000 (0 ∷ 15000 ∷ 5000 ∷ []) (caps_x cap2 cap3) ≡ rounds ∷ seen ∷ short ∷ []
    → paid_in 90000 (0 ∷ 15000 ∷ 5000 ∷ []) (caps_x cap2 cap3) ≡ 0 ∷ paid2 ∷ paid3 ∷ []
    → Worked cap2 cap3 rounds seen short paid2 paid3
worked cap2 cap3 rounds seen short paid2 paid3 low2 low3 told made =
    record { low2 = leb→le cap2 44000000 low2; low3 = leb→le cap3 44000000 low3; told = told; made = made }

pub p1-to-p5 : Worked 177250 88625 0 2 0 67500 22500
    × Worked 67500 33750 1 3 0 67500 22500
    × Worked 65000 32500 1 3 0 65000 25000
    × Worked 60000 30000 2 3 0 60000 30000
    × Worked 50000 25000 2 3 15000 50000 25000
unfolding outcome paid_in visits visits_from opens final run opening next closes closed count_to sum_to table whole shortfall payments paid open_weights
    share quota rest turn before rank left
p1-to-p5 = (
  worked 177250 88625 0 2 0 67500 22500 tt tt refl refl,
  worked 67500 33750 1 3 0 67500 22500 tt tt refl refl,
  worked 65000 32500 1 3 0 65000 25000 tt tt refl refl,
  worked 60000 30000 2 3 0 60000 30000 tt tt refl refl,
  worked 50000 25000 2 3 15000 50000 25000 tt tt refl refl,
)

pub four : outcome 10000 (7 ∷ 7 ∷ 7 ∷ 7 ∷ 7 ∷ []) (2302 ∷ 1000 ∷ 3000 ∷ 2290 ∷ 2100 ∷ []) ≡ 4 ∷ 15 ∷ 0 ∷ []
unfolding outcome visits visits_from opens final run opening next closes closed count_to sum_to table whole shortfall
four = refl

pub four-paid : paid_in 10000 (7 ∷ 7 ∷ 7 ∷ 7 ∷ 7 ∷ []) (2302 ∷ 1000 ∷ 3000 ∷ 2290 ∷ 2100 ∷ [])
    ≡ 2302 ∷ 1000 ∷ 2308 ∷ 2290 ∷ 2100 ∷ []
unfolding paid_in final run opening next closes closed count_to sum_to table whole payments paid open_weights
    share quota rest turn before rank left
four-paid = refl
