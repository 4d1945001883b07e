-- Rounds (01, Rounds; Articles 31, 32): a total is shared over weights ws under caps cs; both are columns of one length. What is short is
-- filled from penalties first (02, request 4); what the rounds take in work is counted (its request 8).
-- Nothing here knows of kinds, tariffs or regions.
use Rattle.std.specs.Prelude.{ℕ, zero, suc, ◌+◌, ◌-◌, ◌*◌, min, Bool, cond, ◌&&◌, List, leb, ltb, eqb, length, replicate}
use Rattle.columns.specs.Sum.{sum_to, whole, count_to, sum_where}
use Rattle.columns.specs.Table.{at, table}
use Rattle.share.specs.Share.{share, shares}

-- how things stand between two rounds: each payer's closing round (0 while it has not closed), the money and the weight
-- that are left, and how many rounds somebody closed in
pub record Standing : Type 0 where
  pub marks : List ℕ
  pub money : ℕ
  pub weight : ℕ
  pub rounds : ℕ

-- position i is a payer: it has weight
abbrev pub is_payer : List ℕ → ℕ → Bool
is_payer ws i = ltb 0 (at ws i)

-- an open one: it has not closed
abbrev pub is_open : List ℕ → List ℕ → ℕ → Bool
is_open ws marks i = eqb (at marks i) 0 && is_payer ws i

-- how many payers there are
unfoldable pub payers : List ℕ → ℕ
payers ws = count_to (length ws) (is_payer ws)

-- how many of them are open
unfoldable pub opens : List ℕ → List ℕ → ℕ
opens ws marks = count_to (length ws) (is_open ws marks)

-- it closes in this round: money times its weight is at least its cap times the open weight
unfoldable pub closes : List ℕ → List ℕ → Standing → ℕ → Bool
closes ws cs st i = is_open ws st.marks i && leb (at cs i * st.weight) (st.money * at ws i)

-- the values of those that close, added up
unfoldable pub closed : List ℕ → List ℕ → Standing → List ℕ → ℕ
closed ws cs st xs = sum_to (length ws) (λ i. cond (closes ws cs st i) (at xs i) 0)

-- after a round in which somebody closed: money falls by their caps, weight by their weights
unfoldable pub next : List ℕ → List ℕ → Standing → Standing
next ws cs st =
    record {
      marks = table (length ws) (λ i. cond (closes ws cs st i) (suc st.rounds) (at st.marks i));
      money = st.money - closed ws cs st cs;
      weight = st.weight - closed ws cs st ws;
      rounds = suc st.rounds;
    }

-- rounds until nobody closes; so many rounds at most
unfoldable pub run : ℕ → List ℕ → List ℕ → Standing → Standing
run zero ws cs st = st
run (suc f) ws cs st =
    let more = run f ws cs (next ws cs st) in
    cond (eqb (count_to (length ws) (closes ws cs st)) 0) st more

-- before the first round nobody has closed, and all the money and weight are there
unfoldable pub opening : ℕ → List ℕ → Standing
opening total ws =
    record { marks = replicate (length ws) 0; money = total; weight = whole ws; rounds = 0 }

-- how things stand after the last round; in each round but the last somebody closes, so one for each position is enough
unfoldable pub final : ℕ → List ℕ → List ℕ → Standing
final total ws cs = run (length ws) ws cs (opening total ws)

-- 02, request 8: how often a payer is looked at from here on. In each round every open payer once, also in the last one, in which nobody
-- closes; so many rounds at most
unfoldable pub visits_from : ℕ → List ℕ → List ℕ → Standing → ℕ
visits_from zero ws cs st = 0
visits_from (suc f) ws cs st =
    let more = visits_from f ws cs (next ws cs st) in
    opens ws st.marks + cond (eqb (count_to (length ws) (closes ws cs st)) 0) 0 more

-- the payer visits of all rounds; each round but the last closes a payer, so one for each position is enough
unfoldable pub visits : ℕ → List ℕ → List ℕ → ℕ
visits total ws cs = visits_from (length ws) ws cs (opening total ws)

-- the same told by the closing rounds (`visits-told`): a payer is looked at in every round up to the one that closes it, and one that
-- never closes, whose mark is 0, in all of them and in the last, quiet one
unfoldable pub looks : ℕ → ℕ → ℕ
looks rounds mark = cond (eqb mark 0) (rounds + 1) mark

unfoldable pub visits_told : List ℕ → List ℕ → ℕ → ℕ
visits_told ws marks rounds = sum_where (length ws) (is_payer ws) (λ i. looks rounds (at marks i))

-- the weights that are still open, by the marks
unfoldable pub open_weights : List ℕ → List ℕ → List ℕ
open_weights ws marks = table (length ws) (λ i. cond (eqb (at marks i) 0) (at ws i) 0)

-- what position i pays: its cap if it closed, else its share of the money left over the open weights; fen are made here, once
unfoldable pub paid : List ℕ → List ℕ → Standing → ℕ → ℕ → ℕ
paid ws cs st first i =
    cond (eqb (at st.marks i) 0) (share st.money (open_weights ws st.marks) first i) (at cs i)

unfoldable pub payments : List ℕ → List ℕ → Standing → ℕ → List ℕ
payments ws cs st first = table (length ws) (paid ws cs st first)

-- the money left if nobody is open (no open weight is left), and 0 otherwise
unfoldable pub shortfall : Standing → ℕ
shortfall st = cond (eqb st.weight 0) st.money 0

-- 02, request 4 (Article 52): what penalties together fill of a shortfall
abbrev pub filled : ℕ → ℕ → ℕ
filled penalties short = min penalties short

-- what they leave of it, for the receivers to bear
abbrev pub to_cut : ℕ → ℕ → ℕ
to_cut penalties short = short - filled penalties short

-- what is left of them, to be returned
abbrev pub to_return : ℕ → ℕ → ℕ
to_return penalties short = penalties - filled penalties short

-- Article 32: what caps and penalties leave open is shared as cuts over the compensations
unfoldable pub cuts : Standing → List ℕ → List ℕ → ℕ → List ℕ
cuts st penalties compensations first = shares (to_cut (whole penalties) (shortfall st)) compensations first

-- document 000, Article 68: what is left of the penalties is returned over them
unfoldable pub returned : Standing → List ℕ → ℕ → List ℕ
returned st penalties first = shares (to_return (whole penalties) (shortfall st)) penalties first
