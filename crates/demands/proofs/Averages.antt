-- The thermal average (02, request 9), of the rows that count in an accepted pair of files.
--   rules-just            it rules exactly if the condition holds
--   statement-averaged    the statement says so at its head's end
--   average-rules         where it rules, what it comes to (record Averaged)
--   usual-bases           where it does not, every base is its limit, the baseline of the terms
use Prim.Native.Nat.{ℕ}
use mathlib.Core.Path.{◌≡◌, refl, ap, ◌∙◌}
use mathlib.Core.Bool.{Bool, true, false, cond}
use mathlib.Core.List.{List}
use lib.ListN.{length}
use Rattle.columns.specs.Sum.{bit}
use Rattle.files.specs.Layout.{head_at, row_count}
use Rattle.files.specs.Form.{terms_of}
use Rattle.files.specs.Order.{verdict_of}
use Rattle.files.specs.Counting.{counting_row}
use Rattle.files.specs.Verdict.{Accepted, number_of}
use Rattle.files.proofs.Laws.{accepted-sound}
use Rattle.duties.specs.Average.{usual, average_of, average_at, base_of}
use Rattle.duties.specs.declared.average.Average.{Average}
use Rattle.duties.proofs.Averages.{not-averaged}
use Rattle.duties.proofs.Reached.{average-under, some-reach, below-above, average-once, still-weighs, ruled-base}
use Rattle.statement.specs.Statement.{head_in}
use Rattle.statement.specs.declared.StatementHead.{StatementHead}
use Rattle.settle.specs.Statement.{statement_head}
use Rattle.settle.specs.Answer.{average_in, limit_in, base_in, top_of, answer_of, buffer_after}
use Rattle.settle.proofs.Accepted.{rows-ranged}
use Rattle.demands.specs.Promise.{windless_in, Averaged}
use Rattle.demands.proofs.Demand2.{statement-read-head}

ruled : (b : Bool) (a : Average) → a.rules ≡ true → (cond b a usual).rules ≡ b
ruled true a e = e
ruled false a e = refl

pub rules-just : (s k : List ℕ) → (average_in s k).rules ≡ windless_in s k
unfolding average_in average_of
rules-just s k = ruled (windless_in s k) _ refl

pub statement-averaged : (s k out : List ℕ) → number_of (answer_of s k (length out)) ≡ 0
    → (head_in (buffer_after s k out)).averaged ≡ bit (windless_in s k)
unfolding top_of statement_head
statement-averaged s k out h =
    ap (λ (x : StatementHead). x.averaged) (statement-read-head s k out h) ∙ ap bit (rules-just s k)

pub usual-bases : (s k : List ℕ) → windless_in s k ≡ false → (i : ℕ) → base_in s k i ≡ limit_in s k i
unfolding average_in
usual-bases s k none i = rw (not-averaged (terms_of s) (head_at s).need.0 (row_count s) (counting_row s k) none) refl

module _ (s k : List ℕ) (n : ℕ) (ok : verdict_of s k ≡ Accepted n) (is : windless_in s k ≡ true) where
  pub average-rules : Averaged s k
  unfolding average_in
  average-rules =
      let t = terms_of s in
      let need = (head_at s).need.0 in
      let row = counting_row s k in
      let ranged = rows-ranged s k n ok in
      let sound = accepted-sound s k n ok in
      let average = average_of t need (row_count s) row in
      let base : (i : ℕ) → base_of t average (row i).capacity ≡ average_at average (row i).capacity =
      λ i. ruled-base t need (row_count s) row is (row i).capacity in
      let reach = some-reach t need (row_count s) row ranged is in
      record {
        under = λ i l. rw (base i) (average-under t need (row_count s) row ranged is (row i).capacity);
        reached = (reach.0, (reach.1, reach.2, rw (base reach.0) reach.3));
        above = λ i x.
            let y = below-above t need (row_count s) row ranged is i x.0 x.1 (rw (base i) at x.2) in
            (y.0, (y.1, y.2, rw (base y.0) y.3));
        once = λ i l e pays.
            rw (base i) (average-once t need (row_count s) row is sound i l e (rw (base i) at pays));
        still = λ i l e. still-weighs t need (row_count s) row is (base_in s k i) i l e;
      }
