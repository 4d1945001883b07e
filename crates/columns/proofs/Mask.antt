-- Laws of sums over the positions that pass a test (specs/Sum.antt, sum_where).
--     where_next      the sum below n + 1, as a loop meets it
--     where-same      tests and values that agree below n have the same sum
--     where-parts     the sum over u is that over p and that over q, where u is p and q together and no position is in both
--     where-split     those that pass and those that do not make the whole
--     where-sub       what passes p passes q: the sum over p is at most that over q
--     where-whole     a sum over some positions is at most the sum over all
--     where-bound     values of at most b: at most b for each position
--     where-none      nobody passes: 0
--     where-all       everybody passes: the sum of all
--     where-zero      values of 0 add up to 0
--     where-term      a position that passes is at most the sum
--     where-each      the same value at each that passes: that value for each of them
--     where-cross     a * f ≤ b * g at each that passes: a * (sum of f) ≤ b * (sum of g)
--     where-cross-lt  the same with < at each: the gap is at least the number that pass
--     where-reach     somebody passes, and the sum of f is at most that of g: f ≤ g at one that passes
--     where-above     and where f is above g at one, it is below g at another
--     count-parts     counts of two parts
use Prim.Native.Nat.{ℕ, zero, suc, ◌+◌, ◌*◌, ◌≤◌, ◌<◌, zero-le}
use mathlib.Core.Path.{◌≡◌, refl, sym, ◌∙◌}
use mathlib.Core.Logic.{⊎_elim}
use mathlib.Core.Bool.{Bool, true, false, cond, not, ◌&&◌}
use native.Mathlib.Nat.{le_refl}
use native.Mathlib.Omega.{arith}
use lib.Dec.{ltb, leb}
use borrow.Author.Tests.{ltb-true, ltb-false, leb-true, leb-false}
use Rattle.columns.specs.Sum.{bit, sum_to, count_to, sum_where}
use Rattle.columns.specs.Table.{Below}
use Rattle.columns.proofs.Sum.{sum-next, sum_same, sum-same-le, sum-le, sum-add, sum_bound, sum-zero, term-le}
use Rattle.columns.proofs.First.{left-true, right-true}
use Rattle.columns.proofs.Rank.{some_or_none}

pub where_next : (n : ℕ) (p : ℕ → Bool) (f : ℕ → ℕ) → sum_where (n + 1) p f ≡ sum_where n p f + cond (p n) (f n) 0
unfolding sum_where
where_next n p f = sum-next n (λ k. cond (p k) (f k) 0)

pub where-same : (n : ℕ) (p q : ℕ → Bool) (f g : ℕ → ℕ) → Below n (λ k. p k ≡ q k) → Below n (λ k. f k ≡ g k) → sum_where n p f ≡ sum_where n q g
unfolding sum_where
where-same n p q f g h e = sum_same n (λ k. cond (p k) (f k) 0) (λ k. cond (q k) (g k) 0) (λ k l. rw (h k l, e k l))

pub where-parts : (n : ℕ) (u p q : ℕ → Bool) (f : ℕ → ℕ) → Below n (λ k. cond (u k) (f k) 0 ≡ cond (p k) (f k) 0 + cond (q k) (f k) 0)
    → sum_where n u f ≡ sum_where n p f + sum_where n q f
unfolding sum_where
where-parts n u p q f h =
    sum_same n (λ k. cond (u k) (f k) 0) (λ k. cond (p k) (f k) 0 + cond (q k) (f k) 0) h
    ∙ sum-add n (λ k. cond (p k) (f k) 0) (λ k. cond (q k) (f k) 0)

pub where-split : (n : ℕ) (p : ℕ → Bool) (f : ℕ → ℕ) → sum_where n p f + sum_where n (λ k. not (p k)) f ≡ sum_to n f
unfolding sum_where
where-split n p f =
    sym (sum-add n (λ k. cond (p k) (f k) 0) (λ k. cond (not (p k)) (f k) 0))
    ∙ sum_same n (λ k. cond (p k) (f k) 0 + cond (not (p k)) (f k) 0) f (λ k l. each (p k) (f k))
  where
    each : (t : Bool) (x : ℕ) → cond t x 0 + cond (not t) x 0 ≡ x
    each true x = omega arith
    each false x = omega arith

pub where-sub : (n : ℕ) (p q : ℕ → Bool) (f : ℕ → ℕ) → Below n (λ k. p k ≡ true → q k ≡ true) → sum_where n p f ≤ sum_where n q f
unfolding sum_where
where-sub n p q f h = sum-le n (λ k. cond (p k) (f k) 0) (λ k. cond (q k) (f k) 0) (λ k l. each (p k) (q k) (f k) (h k l))
  where
    each : (s t : Bool) (x : ℕ) → (s ≡ true → t ≡ true) → cond s x 0 ≤ cond t x 0
    each true t x h = rw (h refl) (le_refl x)
    each false t x h = zero-le

pub where-whole : (n : ℕ) (p : ℕ → Bool) (f : ℕ → ℕ) → sum_where n p f ≤ sum_to n f
where-whole n p f = omega (arith, where-split n p f)

pub where-bound : (n b : ℕ) (p : ℕ → Bool) (f : ℕ → ℕ) → Below n (λ k. f k ≤ b) → sum_where n p f ≤ b * n
where-bound n b p f h = omega (arith, where-whole n p f, sum_bound n b f h)

pub where-none : (n : ℕ) (p : ℕ → Bool) (f : ℕ → ℕ) → Below n (λ k. p k ≡ false) → sum_where n p f ≡ 0
unfolding sum_where
where-none n p f h = sum-zero n (λ k. cond (p k) (f k) 0) (λ k l. rw (h k l))

pub where-all : (n : ℕ) (p : ℕ → Bool) (f : ℕ → ℕ) → Below n (λ k. p k ≡ true) → sum_where n p f ≡ sum_to n f
unfolding sum_where
where-all n p f h = sum_same n (λ k. cond (p k) (f k) 0) f (λ k l. rw (h k l))

pub where-zero : (n : ℕ) (p : ℕ → Bool) (f : ℕ → ℕ) → Below n (λ k. p k ≡ true → f k ≡ 0) → sum_where n p f ≡ 0
unfolding sum_where
where-zero n p f h = sum-zero n (λ k. cond (p k) (f k) 0) (λ k l. each (p k) (f k) (h k l))
  where
    each : (t : Bool) (x : ℕ) → (t ≡ true → x ≡ 0) → cond t x 0 ≡ 0
    each true x h = h refl
    each false x h = refl

pub where-term : (n : ℕ) (p : ℕ → Bool) (f : ℕ → ℕ) (k : ℕ) → k < n → p k ≡ true → f k ≤ sum_where n p f
unfolding sum_where
where-term n p f k l e =
    let h : cond (p k) (f k) 0 ≡ f k = rw e in
    omega (arith, term-le n (λ j. cond (p j) (f j) 0) k l)

pub where-each : (n c : ℕ) (p : ℕ → Bool) (f : ℕ → ℕ) → Below n (λ k. p k ≡ true → f k ≡ c) → sum_where n p f ≡ c * count_to n p
unfolding sum_where count_to sum_to
where-each zero c p f h = omega arith
where-each (suc n) c p f h =
    omega (arith, where-each n c p f (λ k l. h k (omega arith)), each (p n) (f n) (h n (omega arith)))
  where
    each : (t : Bool) (x : ℕ) → (t ≡ true → x ≡ c) → cond t x 0 ≡ c * bit t
    each true x h = omega (arith, h refl)
    each false x h = omega arith

pub where-cross-lt : (n : ℕ) (p : ℕ → Bool) (a b : ℕ) (f g : ℕ → ℕ) → Below n (λ k. p k ≡ true → a * f k < b * g k)
    → a * sum_where n p f + count_to n p ≤ b * sum_where n p g
unfolding sum_where count_to sum_to
where-cross-lt zero p a b f g h = omega arith
where-cross-lt (suc n) p a b f g h =
    omega (arith, where-cross-lt n p a b f g (λ k l. h k (omega arith)), each (p n) (f n) (g n) (h n (omega arith)))
  where
    each : (t : Bool) (x y : ℕ) → (t ≡ true → a * x < b * y) → a * cond t x 0 + bit t ≤ b * cond t y 0
    each true x y h = omega (arith, h refl)
    each false x y h = omega arith

pub where-cross : (n : ℕ) (p : ℕ → Bool) (a b : ℕ) (f g : ℕ → ℕ) → Below n (λ k. p k ≡ true → a * f k ≤ b * g k)
    → a * sum_where n p f ≤ b * sum_where n p g
unfolding sum_where sum_to
where-cross zero p a b f g h = omega arith
where-cross (suc n) p a b f g h =
    omega (arith, where-cross n p a b f g (λ k l. h k (omega arith)), each (p n) (f n) (g n) (h n (omega arith)))
  where
    each : (t : Bool) (x y : ℕ) → (t ≡ true → a * x ≤ b * y) → a * cond t x 0 ≤ b * cond t y 0
    each true x y h = omega (arith, h refl)
    each false x y h = omega arith

pub count-parts : (n : ℕ) (u p q : ℕ → Bool) → Below n (λ k. bit (u k) ≡ bit (p k) + bit (q k)) → count_to n u ≡ count_to n p + count_to n q
unfolding count_to
count-parts n u p q h =
    sum_same n (λ k. bit (u k)) (λ k. bit (p k) + bit (q k)) h ∙ sum-add n (λ k. bit (p k)) (λ k. bit (q k))

-- where the sum of f is at most that of g, f is at most g at one of those that pass
pub where-reach : (n : ℕ) (p : ℕ → Bool) (f g : ℕ → ℕ) → 0 < count_to n p → sum_where n p f ≤ sum_where n p g
    → (i : ℕ) × (i < n) × (p i ≡ true) × (f i ≤ g i)
where-reach n p f g some h =
    ⊎_elim
    (λ (w : (i : ℕ) × (i < n) × (p i && leb (f i) (g i) ≡ true)). (
      w.0,
      w.1,
      left-true (p w.0) (leb (f w.0) (g w.0)) w.2,
      leb-true (f w.0) (g w.0) (right-true (p w.0) (leb (f w.0) (g w.0)) w.2),
    ))
    (λ (none : Below n (λ i. p i && leb (f i) (g i) ≡ false)). absurd (omega (
      arith,
      some,
      h,
      where-cross-lt n p 1 1 g f (λ i l e. omega (arith, leb-false (f i) (g i) (rw e at (none i l)))),
    ))) (some_or_none n (λ i. p i && leb (f i) (g i)))

-- and where f is above g at one of them, it is below g at another
pub where-above : (n : ℕ) (p : ℕ → Bool) (f g : ℕ → ℕ) (i : ℕ) → i < n → p i ≡ true → g i < f i → sum_where n p f ≤ sum_where n p g
    → (j : ℕ) × (j < n) × (p j ≡ true) × (f j < g j)
unfolding sum_where
where-above n p f g i l e high h =
    ⊎_elim
    (λ (w : (j : ℕ) × (j < n) × (p j && ltb (f j) (g j) ≡ true)). (
      w.0,
      w.1,
      left-true (p w.0) (ltb (f w.0) (g w.0)) w.2,
      ltb-true (f w.0) (g w.0) (right-true (p w.0) (ltb (f w.0) (g w.0)) w.2),
    ))
    (λ (none : Below n (λ j. p j && ltb (f j) (g j) ≡ false)).
    let low : Below n (λ j. cond (p j) (g j) 0 ≤ cond (p j) (f j) 0) = λ j m. each (p j) (f j) (g j) (none j m) in
    let same = sum-same-le n (λ j. cond (p j) (g j) 0) (λ j. cond (p j) (f j) 0) low
    (omega (arith, h, sum-le n (λ j. cond (p j) (g j) 0) (λ j. cond (p j) (f j) 0) low)) i l in
    let here : g i ≡ f i = rw e at same in
    absurd (omega (arith, here, high))) (some_or_none n (λ j. p j && ltb (f j) (g j)))
  where
    each : (b : Bool) (x y : ℕ) → b && ltb x y ≡ false → cond b y 0 ≤ cond b x 0
    each true x y q = ltb-false x y q
    each false x y q = le_refl 0
