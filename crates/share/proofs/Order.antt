-- The order of service as one number for each position, its key: the smaller key is served first.
--     turn-late, turn-early     the turn of a position from `first` on, and of one before it
--     turn-front                the second also where turns begin past the last position
--     turn-lt, turn-apart       turns are below n, and no two positions have the same
--     key_apart                 no two positions have the same key
--     before-key                standing before is having the smaller key
--     rank-under                the rank counts the smaller keys
--     rank-turn                 of two equal remainders the one whose turn comes first has the smaller rank
use Prim.Native.Nat.{ℕ, ◌+◌, ◌-◌, ◌*◌, ◌%◌, ◌≤◌, ◌<◌}
use mathlib.Core.Path.{◌≡◌, ap, sym, ◌∙◌}
use mathlib.Core.Logic.{⊎_elim}
use mathlib.Core.Bool.{true, ◌&&◌, ◌||◌}
use mathlib.Core.List.{List}
use native.Mathlib.Nat.{mod-lt, mod-eq_of_lt, mod-eq-sub-mod, mul-le-mul_right, mul-add-mod_self_right}
use native.Mathlib.Omega.{arith}
use lib.Dec.{ltb, eqb}
use lib.ListN.{length}
use borrow.Author.Tests.{lt-ltb, le-ltb, ltb-true, eq-eqb, ne_eqb}
use Rattle.columns.specs.Table.{at}
use Rattle.columns.proofs.Sum.{lt-or-le, count_same}
use Rattle.columns.proofs.Rank.{ltb-same, under, Apart, rank-order}
use Rattle.columns.specs.Sum.{whole}
use Rattle.share.specs.Share.{rest, turn, before, rank}

pub turn-late : (n first i : ℕ) → first ≤ i → i < n → turn n first i ≡ i - first
unfolding turn
turn-late n first i h l =
    mod-eq-sub-mod {n = i + n - first} {m = n} (omega arith)
    ∙ (let e : i + n - first - n ≡ i - first = omega arith in rw e (mod-eq_of_lt (omega arith)))

pub turn-front : (n first i : ℕ) → i < first → first ≤ n → turn n first i ≡ i + n - first
unfolding turn
turn-front n first i h l = mod-eq_of_lt (omega arith)

pub turn-early : (n first i : ℕ) → i < first → first < n → turn n first i ≡ i + n - first
turn-early n first i h l = turn-front n first i h (omega arith)

pub turn-lt : (n first i : ℕ) → 0 < n → turn n first i < n
unfolding turn
turn-lt n first i h = mod-lt (i + n - first) h

pub turn-apart : (n first : ℕ) → first ≤ n → (i j : ℕ) → i < n → j < n → turn n first i ≡ turn n first j → i ≡ j
turn-apart n first h i j k l e =
    ⊎_elim
    (λ (p : i < first). ⊎_elim (λ (q : j < first). omega (arith, turn-front n first i p h, turn-front n first j q h))
    (λ (q : first ≤ j). omega (arith, turn-front n first i p h, turn-late n first j q l)) (lt-or-le j first))
    (λ (p : first ≤ i). ⊎_elim (λ (q : j < first). omega (arith, turn-late n first i p k, turn-front n first j q h))
    (λ (q : first ≤ j). omega (arith, turn-late n first i p k, turn-late n first j q l)) (lt-or-le j first))
    (lt-or-le i first)

-- a larger remainder r has a smaller key, and of equal ones the smaller turn t; W is above every remainder, n above every turn
unfoldable pub standing : ℕ → ℕ → ℕ → ℕ → ℕ
standing W n r t = (W - r) * n + t

standing-lt : (W n r t s u : ℕ) → r ≤ W → t < n → s < r → standing W n r t < standing W n s u
unfolding standing
standing-lt W n r t s u h k l =
    omega (arith, mul-le-mul_right {m = W - r + 1} {n = W - s} n (omega arith))

-- the test by remainder and turn is the comparison of keys
standing-test : (W n r t s u : ℕ) → r ≤ W → s ≤ W → t < n → u < n
    → ltb s r || (eqb r s && ltb t u) ≡ ltb (standing W n r t) (standing W n s u)
standing-test W n r t s u h k l m =
    ⊎_elim
    (λ (p : s < r). rw (lt-ltb s r p, lt-ltb (standing W n r t) (standing W n s u) (standing-lt W n r t s u h l p)))
    (λ (p : r ≤ s). ⊎_elim
    (λ (q : r < s). let o : standing W n s u < standing W n r t = standing-lt W n s u r t k m q in
    rw (le-ltb s r p, ne_eqb r s (omega arith), le-ltb (standing W n r t) (standing W n s u) (omega arith)))
    (λ (q : s ≤ r). let e : r ≡ s = omega arith in rw (le-ltb s r p, eq-eqb r s e, e)
    (ltb-same t u (standing W n s t) (standing W n s u) (λ (o : t < u). unfold standing in omega arith) (λ (o : standing W n s t < standing W n s u). unfold standing in omega arith)))
    (lt-or-le r s))
    (lt-or-le s r)

standing-turn : (W n r t s u : ℕ) → t < n → u < n → standing W n r t ≡ standing W n s u → t ≡ u
unfolding standing
standing-turn W n r t s u h k e =
    sym (mul-add-mod_self_right (W - r) n t ∙ mod-eq_of_lt h) ∙ ap (λ (x : ℕ). x % n) e
    ∙ mul-add-mod_self_right (W - s) n u ∙ mod-eq_of_lt k

-- the key of a position
unfoldable pub key : ℕ → List ℕ → ℕ → ℕ → ℕ
key a ws first i = standing (whole ws) (length ws) (rest a ws i) (turn (length ws) first i)

module _ (a : ℕ) (ws : List ℕ) (first : ℕ) (some : 0 < whole ws) (inside : first < length ws) where
  rest_le : (i : ℕ) → rest a ws i ≤ whole ws
  unfolding rest
  rest_le i = omega (arith, mod-lt (a * at ws i) some)

  pub before-key : (i j : ℕ) → before a ws first i j ≡ ltb (key a ws first i) (key a ws first j)
  unfolding before key
  before-key i j =
      standing-test (whole ws) (length ws) (rest a ws i) (turn (length ws) first i) (rest a ws j) (turn (length ws) first j)
      (rest_le i) (rest_le j) (turn-lt (length ws) first i (omega arith)) (turn-lt (length ws) first j (omega arith))

  pub key_apart : Apart (length ws) (key a ws first)
  unfolding key
  key_apart i j k l e =
      turn-apart (length ws) first (omega arith) i j k l
      (standing-turn (whole ws) (length ws) (rest a ws i) (turn (length ws) first i) (rest a ws j) (turn (length ws) first j)
      (turn-lt (length ws) first i (omega arith)) (turn-lt (length ws) first j (omega arith)) e)

  pub rank-under : (i : ℕ) → rank a ws first i ≡ under (length ws) (key a ws first) (key a ws first i)
  unfolding rank under
  rank-under i =
      count_same (length ws) (λ j. before a ws first j i) (λ j. ltb (key a ws first j) (key a ws first i)) (λ j l. before-key j i)

  turn-before : (i j : ℕ) → rest a ws i ≡ rest a ws j → turn (length ws) first i < turn (length ws) first j → before a ws first i j ≡ true
  unfolding before
  turn-before i j e t =
      rw (le-ltb (rest a ws j) (rest a ws i) (omega arith), eq-eqb (rest a ws i) (rest a ws j) e, lt-ltb (turn (length ws) first i) (turn (length ws) first j) t)

  pub rank-turn : (i j : ℕ) → i < length ws → rest a ws i ≡ rest a ws j → turn (length ws) first i < turn (length ws) first j
      → rank a ws first i < rank a ws first j
  rank-turn i j l e t =
      ltb-true (rank a ws first i) (rank a ws first j)
      (rw (rank-under i, rank-under j)
      (rank-order (length ws) (key a ws first) key_apart i j l ∙ sym (before-key i j) ∙ turn-before i j e t))
