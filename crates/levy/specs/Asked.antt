-- What the functions of the rounds ask of their callers, and what they answer. The columns of n positions that other crates lend
-- stand in arrays of 256; within the crate a column is a slice. The numbers are those of the ranges, with room for what later
-- requests need.
use Rattle.std.specs.Prelude.{ℕ, ◌+◌, ◌-◌, ◌^◌, ◌≤◌, ◌<◌, ◌≡◌, cond, List, eqb, length, take, drop, replicate}
use Rattle.columns.specs.Lists.{Lists}
use Rattle.columns.specs.Sum.{whole, sum_where}
use Rattle.columns.specs.Table.{at}
use Rattle.share.specs.Share.{shares}
use Rattle.levy.specs.Rounds.{Standing, is_open, opens, closed, next, run, final, visits, paid, shortfall, to_cut, to_return}
use Rattle.levy.specs.declared.Closed.{Closed}
use Rattle.levy.specs.declared.Rest.{Rest}
use Rattle.levy.specs.declared.Left.{Left}

-- how things stand, from the array and the numbers that the code holds
abbrev pub standing : ℕ → List ℕ → ℕ → ℕ → ℕ → Standing
standing n marks money weight rounds =
    record { marks = take n marks; money = money; weight = weight; rounds = rounds }

abbrev pub standing_of : ℕ → List ℕ → Rest → Standing
standing_of n marks r = standing n marks r.money.0 r.weight r.rounds

-- a column of numbers of 32 bits
abbrev pub Small : List ℕ → Type 0
Small xs = (i : ℕ) → at xs i < 2 ^ 32

-- the arrays that the rounds hold, with weights and caps small enough that each product of a round stays below 2 ^ 63
pub record Held (n : ℕ) (weights caps marks : List ℕ) (money : ℕ) : Type 0 where
  pub few : n ≤ 256
  pub weights_long : length weights ≡ 256
  pub caps_long : length caps ≡ 256
  pub marks_long : length marks ≡ 256
  pub light : (i : ℕ) → at (take n weights) i ≤ 550000000
  pub low : (i : ℕ) → at (take n caps) i ≤ 44000000
  pub rich : money ≤ 6400000000

-- asked by the rounds: nobody has closed yet
pub record Levyable (n : ℕ) (weights caps marks : List ℕ) (total : ℕ) : Type 0 where
  pub held : Held n weights caps marks total
  pub blank : (i : ℕ) → at marks i ≡ 0

-- how things stand, from a column of marks and the numbers beside it
abbrev pub standing_now : List ℕ → ℕ → ℕ → ℕ → Standing
standing_now marks money weight rounds =
    record { marks = marks; money = money; weight = weight; rounds = rounds }

-- the columns that the rounds go over, small enough as those of `Held`
pub record InRange (weights caps marks : List ℕ) (money : ℕ) : Type 0 where
  pub few : length weights ≤ 256
  pub caps_long : length caps ≡ length weights
  pub marks_long : length marks ≡ length weights
  pub light : (i : ℕ) → at weights i ≤ 550000000
  pub low : (i : ℕ) → at caps i ≤ 44000000
  pub rich : money ≤ 6400000000

-- an array begins with the open payers, m of them in order
abbrev pub Listed : List ℕ → List ℕ → List ℕ → ℕ → Type 0
Listed weights marks list m = Lists (length weights) (is_open weights marks) list m

-- asked by one round
pub record Round (weights caps marks : List ℕ) (money weight : ℕ) (list : List ℕ) (m : ℕ) : Type 0 where
  pub held : InRange weights caps marks money
  pub heavy : weight ≤ 140800000000
  pub listed : Listed weights marks list m

-- answered by one round: who closes has its mark, who is left open is listed, and nothing else changes
pub record Shut (weights caps : List ℕ) (st : Standing) (after list : List ℕ) (r : Closed) : Type 0 where
  pub marks_are : after ≡ (next weights caps st).marks
  pub caps_are : r.caps.0 ≡ closed weights caps st caps
  pub weights_are : r.weights ≡ closed weights caps st weights
  pub listed : Listed weights after list r.left

-- asked where redistribution begins, and again at each round: the weight is that of those who have not closed, marks are
-- numbers of past rounds, only payers of weight above 0 have closed, and there are rounds enough for the open ones, who are listed
pub record Ready (weights caps marks : List ℕ) (money weight rounds : ℕ) (list : List ℕ) (m : ℕ) : Type 0 where
  pub held : InRange weights caps marks money
  pub weight_is : weight ≡ sum_where (length weights) (λ i. eqb (at marks i) 0) (at weights)
  pub marks_le : (i : ℕ) → at marks i ≤ rounds
  pub payers : (i : ℕ) → 0 < at marks i → 0 < at weights i
  pub early : rounds + m ≤ 256
  pub listed : Listed weights marks list m

-- answered by redistribution from any standing: however many rounds are allowed, if they are enough
pub record Ended (weights caps : List ℕ) (st : Standing) (after : List ℕ) (money weight rounds : ℕ) : Type 0 where
  pub is : (f : ℕ) → opens weights st.marks ≤ f → run f weights caps st ≡ standing_now after money weight rounds
  pub early : rounds ≤ 256

-- asked where visits are counted: every mark is one of so many rounds
pub record Countable (weights marks : List ℕ) (rounds : ℕ) : Type 0 where
  pub few : length weights ≤ 256
  pub marks_long : length marks ≡ length weights
  pub marks_le : (i : ℕ) → at marks i ≤ rounds
  pub early : rounds ≤ 256

-- answered by the rounds: how things stand after the last one, how often payers were looked at, and 0 past the n positions
pub record Finished (total n : ℕ) (weights caps after : List ℕ) (r : Rest) : Type 0 where
  pub is : standing_of n after r ≡ final total (take n weights) (take n caps)
  pub visits_are : r.visits ≡ visits total (take n weights) (take n caps)
  pub past : drop n after ≡ replicate (256 - n) 0
  pub long : length after ≡ 256

-- answered by the shortfall, which marks have no part in
abbrev pub Short : Rest → ℕ → Type 0
Short r x = (n : ℕ) (marks : List ℕ) → x ≡ shortfall (standing_of n marks r)

-- answered once penalties have filled a shortfall: what is left of both
pub record Covered (penalties short : ℕ) (r : Left) : Type 0 where
  pub cut : r.cut.0 ≡ to_cut penalties short
  pub returned : r.returned.0 ≡ to_return penalties short

-- asked by the payments: each fits its field
pub record Payable (n : ℕ) (weights caps marks : List ℕ) (r : Rest) (first : ℕ) : Type 0 where
  pub few : n ≤ 256
  pub weights_long : length weights ≡ 256
  pub caps_long : length caps ≡ 256
  pub marks_long : length marks ≡ 256
  pub turn : 0 < n → first < n
  pub fits : (i : ℕ) → paid (take n weights) (take n caps) (standing_of n marks r) first i < 2 ^ 32

-- what position i pays, from shares of the money left that have been made
unfoldable pub paid_from : List ℕ → List ℕ → List ℕ → ℕ → ℕ
paid_from caps marks parts i = cond (eqb (at marks i) 0) (at parts i) (at caps i)

-- asked where shares and caps become payments
pub record Made (caps marks parts : List ℕ) : Type 0 where
  pub caps_long : length caps ≡ length parts
  pub marks_long : length marks ≡ length parts
  pub fits : (i : ℕ) → i < length parts → paid_from caps marks parts i < 2 ^ 32

-- asked where the money left is shared over the open weights: the payments that come of it fit
pub record Spread (money : ℕ) (still caps marks : List ℕ) (first : ℕ) (parts : List ℕ) : Type 0 where
  pub few : length still ≤ 256
  pub small : Small still
  pub parts_long : length parts ≡ length still
  pub caps_long : length caps ≡ length still
  pub marks_long : length marks ≡ length still
  pub turn : 0 < length still → first < length still
  pub fits : (i : ℕ) → i < length still → paid_from caps marks (shares money still first) i < 2 ^ 32

-- room for two columns of n
pub record Room (n : ℕ) (one two : List ℕ) : Type 0 where
  pub one_long : length one ≡ n
  pub two_long : length two ≡ n

-- asked where an amount is shared over a column of sums that comes to no less
pub record Apportionable (amount : ℕ) (sums : List ℕ) (first : ℕ) (out : List ℕ) : Type 0 where
  pub few : length sums ≤ 256
  pub out_long : length out ≡ length sums
  pub turn : 0 < length sums → first < length sums
  pub covered : amount ≤ whole sums
