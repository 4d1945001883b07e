-- Laws of sums, counts and maxima over positions (specs/Sum.antt).
--     lt-or-le      of two numbers the first is below the second, or the second is at most the first
--     sum-next      the sum below n + 1, as a loop meets it
--     sum_same      functions that agree below n have the same sum
--     sum-le        a pointwise smaller function has a smaller sum
--     sum-add       the sum of f + g
--     sum-mul       a constant factor c * f comes out
--     sum_bound     terms of at most b: the sum is at most b * n
--     sum-zero      terms of 0 sum to 0
--     sum-shorter   a sum over fewer positions is smaller
--     term-le       each term is at most the sum
--     sum-same-le   where f ≤ g below n and the sums are equal, f and g agree
--     bit_le        a test counts for at most 1
--     count_next, count_same, count-le, count_none, count-all, count-sub, count-some, count-zero     the same of counts
--     count-before  whoever passes counts for all that come after it
--     max-next, max-term, max-bound, max-reached      the same of maxima
--     max-where-next, max-where-term, max-where-bound, max-where-reached      the same over the positions that pass a test
--     max-where-fewer      where fewer positions pass, the largest value is no larger
use Prim.Native.Nat.{ℕ, zero, suc, ◌+◌, ◌*◌, ◌≤◌, ◌<◌, max, zero-le, suc-le-suc}
use mathlib.Core.Path.{◌≡◌, refl, ap, sym, ◌∙◌}
use mathlib.Core.Logic.{◌⊎◌, inl, inr, ⊎_elim}
use mathlib.Core.Bool.{Bool, true, false, cond}
use native.Mathlib.Nat.{le_refl, mul-add, le-max_left, le-max_right, max-le, max-eq_left, max-eq_right}
use native.Mathlib.Numerals.{add-one}
use native.Mathlib.Omega.{arith}
use Rattle.columns.specs.Sum.{bit, sum_to, count_to, max_to, max_where}
use Rattle.columns.specs.Table.{Below}

pub lt-or-le : (a b : ℕ) → (a < b) ⊎ (b ≤ a)
lt-or-le a zero = inr zero-le
lt-or-le zero (suc b) = inl (suc-le-suc zero-le)
lt-or-le (suc a) (suc b) = ⊎_elim (λ p. inl (suc-le-suc p)) (λ q. inr (suc-le-suc q)) (lt-or-le a b)

pub sum-next : (n : ℕ) (f : ℕ → ℕ) → sum_to (n + 1) f ≡ sum_to n f + f n
unfolding sum_to
sum-next n f = rw add-one

pub sum_same : (n : ℕ) (f g : ℕ → ℕ) → Below n (λ k. f k ≡ g k) → sum_to n f ≡ sum_to n g
unfolding sum_to
sum_same zero f g h = refl
sum_same (suc n) f g h = omega (arith, sum_same n f g (λ k l. h k (omega arith)), h n (omega arith))

pub sum-le : (n : ℕ) (f g : ℕ → ℕ) → Below n (λ k. f k ≤ g k) → sum_to n f ≤ sum_to n g
unfolding sum_to
sum-le zero f g h = le_refl 0
sum-le (suc n) f g h = omega (arith, sum-le n f g (λ k l. h k (omega arith)), h n (omega arith))

pub sum-add : (n : ℕ) (f g : ℕ → ℕ) → sum_to n (λ k. f k + g k) ≡ sum_to n f + sum_to n g
unfolding sum_to
sum-add zero f g = refl
sum-add (suc n) f g = omega (arith, sum-add n f g)

pub sum-mul : (n c : ℕ) (f : ℕ → ℕ) → sum_to n (λ k. c * f k) ≡ c * sum_to n f
unfolding sum_to
sum-mul zero c f = omega arith
sum-mul (suc n) c f = omega (arith, sum-mul n c f, mul-add c (sum_to n f) (f n))

pub sum_bound : (n b : ℕ) (f : ℕ → ℕ) → Below n (λ k. f k ≤ b) → sum_to n f ≤ b * n
unfolding sum_to
sum_bound zero b f h = omega arith
sum_bound (suc n) b f h = rw (← add-one) (omega (arith, mul-add b n 1, sum_bound n b f (λ k l. h k (omega arith)), h n (omega arith)))

pub sum-zero : (n : ℕ) (f : ℕ → ℕ) → Below n (λ k. f k ≡ 0) → sum_to n f ≡ 0
unfolding sum_to
sum-zero zero f h = refl
sum-zero (suc n) f h = omega (arith, sum-zero n f (λ k l. h k (omega arith)), h n (omega arith))

pub sum-shorter : (m n : ℕ) (f : ℕ → ℕ) → m ≤ n → sum_to m f ≤ sum_to n f
unfolding sum_to
sum-shorter m zero f h = let e : m ≡ 0 = omega arith in rw e (le_refl 0)
sum-shorter m (suc n) f h =
    ⊎_elim (λ (l : m < suc n). omega (arith, sum-shorter m n f (omega arith)))
    (λ (q : suc n ≤ m). let e : m ≡ suc n = omega arith in rw e (le_refl _)) (lt-or-le m (suc n))

pub term-le : (n : ℕ) (f : ℕ → ℕ) (k : ℕ) → k < n → f k ≤ sum_to n f
term-le n f k l = omega (arith, sum-shorter (k + 1) n f (omega arith), sum-next k f)

pub sum-same-le : (n : ℕ) (f g : ℕ → ℕ) → Below n (λ k. f k ≤ g k) → sum_to n f ≡ sum_to n g → Below n (λ k. f k ≡ g k)
unfolding sum_to
sum-same-le zero f g h e k l = absurd (omega arith)
sum-same-le (suc n) f g h e k l =
    ⊎_elim (λ (q : k < n). sum-same-le n f g (λ j m. h j (omega arith)) (omega (arith, below, h n (omega arith))) k q)
    (λ (q : n ≤ k). let s : k ≡ n = omega arith in rw s (omega (arith, below, h n (omega arith)))) (lt-or-le k n)
  where
    below : sum_to n f ≤ sum_to n g
    below = sum-le n f g (λ j m. h j (omega arith))

pub bit_le : (t : Bool) → bit t ≤ 1
bit_le true = le_refl 1
bit_le false = zero-le

pub count_next : (n : ℕ) (p : ℕ → Bool) → count_to (n + 1) p ≡ count_to n p + bit (p n)
unfolding count_to
count_next n p = sum-next n (λ k. bit (p k))

pub count_same : (n : ℕ) (p q : ℕ → Bool) → Below n (λ k. p k ≡ q k) → count_to n p ≡ count_to n q
unfolding count_to
count_same n p q h = sum_same n (λ k. bit (p k)) (λ k. bit (q k)) (λ k l. ap bit (h k l))

pub count-le : (n : ℕ) (p : ℕ → Bool) → count_to n p ≤ n
unfolding count_to
count-le n p = omega (arith, sum_bound n 1 (λ k. bit (p k)) (λ k l. bit_le (p k)))

pub count_none : (n : ℕ) (p : ℕ → Bool) → Below n (λ k. p k ≡ false) → count_to n p ≡ 0
unfolding count_to
count_none n p h = sum-zero n (λ k. bit (p k)) (λ k l. ap bit (h k l))

pub count-all : (n : ℕ) (p : ℕ → Bool) → Below n (λ k. p k ≡ true) → count_to n p ≡ n
count-all zero p h = unfold count_to sum_to in refl
count-all (suc n) p h =
    rw (← add-one) (omega (arith, count_next n p, count-all n p (λ k l. h k (omega arith)), ap bit (h n (omega arith))))

-- what passes p passes q: no more pass p
pub count-sub : (n : ℕ) (p q : ℕ → Bool) → Below n (λ k. p k ≡ true → q k ≡ true) → count_to n p ≤ count_to n q
unfolding count_to
count-sub n p q h = sum-le n (λ k. bit (p k)) (λ k. bit (q k)) (λ k l. each k (p k) (q k) (h k l))
  where
    each : (k : ℕ) (s t : Bool) → (s ≡ true → t ≡ true) → bit s ≤ bit t
    each k true t h = let e : t ≡ true = h refl in rw e (le_refl 1)
    each k false t h = zero-le

-- a test that passes at k makes the count at least 1
pub count-some : (n : ℕ) (p : ℕ → Bool) (k : ℕ) → k < n → p k ≡ true → 0 < count_to n p
unfolding count_to
count-some n p k l e = omega (arith, term-le n (λ j. bit (p j)) k l, ap bit e)

-- a count of 0 passes nowhere
pub count-zero : (n : ℕ) (p : ℕ → Bool) → count_to n p ≡ 0 → Below n (λ k. p k ≡ false)
count-zero n p e k l = passes (p k) refl
  where
    passes : (t : Bool) → p k ≡ t → p k ≡ false
    passes true f = absurd (omega (arith, count-some n p k l f))
    passes false f = f

pub count-before : (p : ℕ → Bool) (k n : ℕ) → k < n → p k ≡ true → count_to k p < count_to n p
unfolding count_to
count-before p k n l e =
    omega (arith, sum-next k (λ j. bit (p j)), ap bit e, sum-shorter (k + 1) n (λ j. bit (p j)) (omega arith))

pub max-next : (n : ℕ) (f : ℕ → ℕ) → max_to (n + 1) f ≡ max (max_to n f) (f n)
unfolding max_to
max-next n f = rw add-one

pub max-bound : (n b : ℕ) (f : ℕ → ℕ) → Below n (λ k. f k ≤ b) → max_to n f ≤ b
unfolding max_to
max-bound zero b f h = zero-le
max-bound (suc n) b f h = max-le (max-bound n b f (λ k l. h k (omega arith))) (h n (omega arith))

pub max-term : (n : ℕ) (f : ℕ → ℕ) → Below n (λ k. f k ≤ max_to n f)
unfolding max_to
max-term zero f k l = absurd (omega arith)
max-term (suc n) f k l =
    ⊎_elim (λ (q : k < n). omega (arith, max-term n f k q, le-max_left (max_to n f) (f n)))
    (λ (q : n ≤ k). let s : k ≡ n = omega arith in rw s (le-max_right (max_to n f) (f n))) (lt-or-le k n)

-- the largest value stands at some position, or it is 0
pub max-reached : (n : ℕ) (f : ℕ → ℕ) → ((k : ℕ) × (k < n) × (f k ≡ max_to n f)) ⊎ (max_to n f ≡ 0)
unfolding max_to
max-reached zero f = inr refl
max-reached (suc n) f =
    ⊎_elim (λ (l : max_to n f < f n). inl (n, omega arith, sym (max-eq_right (omega arith))))
    (λ (q : f n ≤ max_to n f). ⊎_elim
    (λ (w : (k : ℕ) × (k < n) × (f k ≡ max_to n f)). inl (w.0, omega arith, w.2 ∙ sym (max-eq_left q)))
    (λ (e : max_to n f ≡ 0). inr (max-eq_left q ∙ e)) (max-reached n f)) (lt-or-le (max_to n f) (f n))

module _ (n : ℕ) (p : ℕ → Bool) (f : ℕ → ℕ) where
  -- the value of a position that passes, 0 of one that does not
  abbrev passing : ℕ → ℕ
  passing k = cond (p k) (f k) 0

  passed : (k : ℕ) (t : Bool) → p k ≡ t → ((p k ≡ true) × (passing k ≡ f k)) ⊎ (passing k ≡ 0)
  passed k true e = inl (e, rw e refl)
  passed k false e = inr (rw e refl)

  pub max-where-next : max_where (n + 1) p f ≡ max (max_where n p f) (cond (p n) (f n) 0)
  unfolding max_where
  max-where-next = max-next n passing

  pub max-where-term : (k : ℕ) → k < n → p k ≡ true → f k ≤ max_where n p f
  unfolding max_where
  max-where-term k l e = let here : passing k ≡ f k = rw e refl in omega (arith, max-term n passing k l)

  pub max-where-bound : (b : ℕ) → Below n (λ k. p k ≡ true → f k ≤ b) → max_where n p f ≤ b
  unfolding max_where
  max-where-bound b h =
      max-bound n b passing
      (λ k l. ⊎_elim (λ (y : (p k ≡ true) × (passing k ≡ f k)). omega (arith, y.1, h k l y.0))
      (λ (z : passing k ≡ 0). omega (arith, z)) (passed k (p k) refl))

  pub max-where-reached : ((k : ℕ) × (k < n) × (p k ≡ true) × (f k ≡ max_where n p f)) ⊎ (max_where n p f ≡ 0)
  unfolding max_where
  max-where-reached =
      ⊎_elim
      (λ (w : (k : ℕ) × (k < n) × (passing k ≡ max_to n passing)).
      ⊎_elim (λ (y : (p w.0 ≡ true) × (passing w.0 ≡ f w.0)). inl (w.0, w.1, y.0, sym y.1 ∙ w.2))
      (λ (z : passing w.0 ≡ 0). inr (sym w.2 ∙ z)) (passed w.0 (p w.0) refl))
      (λ (e : max_to n passing ≡ 0). inr e) (max-reached n passing)

pub max-where-fewer : (n : ℕ) (p q : ℕ → Bool) (f : ℕ → ℕ) → Below n (λ k. p k ≡ true → q k ≡ true) → max_where n p f ≤ max_where n q f
max-where-fewer n p q f h = max-where-bound n p f (max_where n q f) (λ k l e. max-where-term n q f k l (h k l e))
