-- What the parts of `split` ask and answer. They are private: a reader of the rule needs none of this.
use Rattle.std.specs.Prelude.{ℕ, ◌+◌, ◌*◌, ◌≤◌, ◌<◌, ◌^◌, ◌≡◌, Bool, true, ◌&&◌, ◌||◌, List, ltb, leb, eqb, length}
use Rattle.columns.specs.Sum.{bit, count_to, whole}
use Rattle.columns.specs.Table.{at, table, Below}
use Rattle.share.specs.Share.{quota, rest, turn, left}
use Rattle.share.specs.declared.Division.{Division}

-- v divided by W: the quota, and a remainder below W
pub record Divided (v W : ℕ) (d : Division) : Type 0 where
  pub is : W * d.quota + d.rest ≡ v
  pub less : d.rest < W

-- a remainder to which more comes, no more than W; the quota stays in 64 bits
pub record Carries (q r m W : ℕ) : Type 0 where
  pub less : r < W
  pub most : m ≤ W
  pub fits : W * q + r + m < W * 2 ^ 64

-- a division to which a binary digit comes
pub record Digits (q r digit w W : ℕ) : Type 0 where
  pub less : r < W
  pub most : w ≤ W
  pub two : digit < 2
  pub fits : 2 * (W * q + r) + digit * w < W * 2 ^ 64

-- a weight above 0, and the sum that it is part of
pub record Divisible (w W : ℕ) : Type 0 where
  pub some : 0 < w
  pub most : w ≤ W

-- position i has weight
unfoldable pub weighs : List ℕ → ℕ → Bool
weighs ws i = ltb 0 (at ws i)

-- the place of position i in the list of those of weight
abbrev pub entry : List ℕ → ℕ → ℕ
entry ws i = count_to i (weighs ws)

-- the m positions of weight, in order: each stands at its place
pub record Listed (ws list : List ℕ) (m : ℕ) : Type 0 where
  pub long : length list ≡ m
  pub many : m ≡ count_to (length ws) (weighs ws)
  pub places : Below (length ws) (λ i. weighs ws i ≡ true → at list (entry ws i) ≡ i)

-- quota and remainder of the position that stands at place j of the list
unfoldable pub listed_quota : ℕ → List ℕ → List ℕ → ℕ → ℕ
listed_quota a ws list j = quota a ws (at list j)

unfoldable pub listed_rest : ℕ → List ℕ → List ℕ → ℕ → ℕ
listed_rest a ws list j = rest a ws (at list j)

-- the sum of the weights, above 0, a blank column as long as theirs, and room for as many remainders as there are listed positions
pub record Quotable (ws qs rs list : List ℕ) (W : ℕ) : Type 0 where
  pub short : length ws ≤ 256
  pub is : W ≡ whole ws
  pub some : 0 < W
  pub room : length qs ≡ length ws
  pub blank : (i : ℕ) → at qs i ≡ 0
  pub listed : Listed ws list (length rs)

-- the column of quotas, the remainders of the m listed positions, and what is left of the amount
pub record Quoted (a : ℕ) (ws list : List ℕ) (m : ℕ) (qs rs : List ℕ) (remains : ℕ) : Type 0 where
  pub quotas : qs ≡ table (length ws) (quota a ws)
  pub rests : rs ≡ table m (listed_rest a ws list)
  pub leaves : remains ≡ left a ws

-- remainder r at turn t is served before remainder s at turn u
abbrev pub goes_before : ℕ → ℕ → ℕ → ℕ → Bool
goes_before r t s u = ltb s r || (eqb r s && ltb t u)

-- the rank, by the column of remainders alone
unfoldable pub place : List ℕ → ℕ → ℕ → ℕ
place rs first i =
    count_to (length rs) (λ j. goes_before (at rs j) (turn (length rs) first j) (at rs i) (turn (length rs) first i))

-- 1 for the remainder at place j if it is among the first `left` to be served
unfoldable pub marked : List ℕ → ℕ → ℕ → ℕ → ℕ
marked rs first left j = bit (ltb (place rs first j) left)

-- how many remainders reach k
unfoldable pub reach : List ℕ → ℕ → ℕ
reach rs k = count_to (length rs) (λ j. leb k (at rs j))

-- the `left` who are served are those above `low`, and of those equal to it the first `ties`
pub record Served (rs : List ℕ) (left low ties : ℕ) : Type 0 where
  pub is : reach rs (low + 1) + ties ≡ left
  pub most : left ≤ reach rs low

-- remainders below their divisor W, and no more to hand out than there are
pub record Serving (rs : List ℕ) (W left : ℕ) : Type 0 where
  pub short : length rs ≤ 256
  pub under : (i : ℕ) → at rs i < W
  pub enough : left ≤ length rs

-- where the line is, with turns that begin at place `start`
pub record Turning (rs : List ℕ) (start left low ties : ℕ) : Type 0 where
  pub short : length rs ≤ 256
  pub inside : start ≤ length rs
  pub line : Served rs left low ties

-- the place of the list where turns begin: how many positions before `first` stand in it
unfoldable pub start_in : List ℕ → ℕ → ℕ → ℕ
start_in list m first = count_to m (λ j. ltb (at list j) first)

-- what position i has with one more if it has weight and its remainder, by the list, is among the first `left` to be served
unfoldable pub raised : List ℕ → List ℕ → List ℕ → List ℕ → ℕ → ℕ → ℕ → ℕ
raised ws qs rs list first left i =
    at qs i + bit (weighs ws i && ltb (place rs (start_in list (length rs) first) (entry ws i)) left)

-- quotas, and the remainders of the list, over which what is left can go out
pub record Handable (ws qs rs list : List ℕ) (W first left : ℕ) : Type 0 where
  pub serving : Serving rs W left
  pub short : length ws ≤ 256
  pub room : length qs ≡ length ws
  pub listed : Listed ws list (length rs)
  pub fits : Below (length ws) (λ i. raised ws qs rs list first left i < 2 ^ 64)

-- what position i has with one more if it has weight and its remainder, by the list, is above `low`
unfoldable pub lifted : List ℕ → List ℕ → List ℕ → ℕ → ℕ → ℕ
lifted ws qs rs low i = at qs i + bit (weighs ws i && ltb low (at rs (entry ws i)))

-- quotas, and the remainders of the list, over which it can go out
pub record Liftable (ws qs rs list : List ℕ) (low : ℕ) : Type 0 where
  pub short : length ws ≤ 256
  pub room : length qs ≡ length ws
  pub listed : Listed ws list (length rs)
  pub fits : Below (length ws) (λ i. lifted ws qs rs low i < 2 ^ 64)
