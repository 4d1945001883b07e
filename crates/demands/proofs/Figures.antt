-- The worked figures of document 01, proved together, and those of the requests of document 02.
--   all_right-holds         one test, computed by the checker over both tables
--   worked-figures    P1 to P11: every line of the table works out to what the paper says
--   request-figures   so does every line of the requests' table
use Prim.Native.Nat.{ℕ, zero, suc, ◌<◌}
use native.Mathlib.Nat.{le_of_suc-le-suc, not-suc-le-zero}
use mathlib.Core.Path.{◌≡◌, refl, sym, subst, ap₂}
use mathlib.Core.Bool.{true, ◌&&◌}
use mathlib.Core.List.{List, [], ◌∷◌}
use lib.Dec.{T, eqb}
use lib.ListN.{length, get_or}
use borrow.Author.Tests.{eqb-true}
use Rattle.columns.specs.Sum.{sum_to, count_to, sum_where, max_to, max_where, find_to, whole}
use Rattle.columns.specs.Table.{table}
use Rattle.columns.proofs.First.{left-true, right-true}
use Rattle.columns.specs.Checks.{first_refusal, row_by_row, previous}
use Rattle.records.specs.Number.{number_at, number_bytes}
use Rattle.records.specs.Fields.{fields_bytes}
use Rattle.records.specs.Record.{fields_at, record_at, record_bytes, records_bytes}
use Rattle.records.specs.Buffer.{put}
use Rattle.records.specs.Sheet.{column_of}
use Rattle.share.specs.Share.{quota, rest, turn, before, rank, left, share, shares}
use Rattle.files.specs.Layout.{head_at, row_at, correction_head_at}
use Rattle.files.specs.Range.{head_ok, head_tests, terms_ok, terms_tests, status_ok, idle_tests, not_offering, offer_tests, offering, row_tests, row_ok}
use Rattle.files.specs.Order.{front_checks, head_checks, row_checks, row_checks_at, row_checks_of, interval_order, file_order}
use Rattle.files.specs.Form.{terms_at, terms_bytes, known, states, terms_of, rows_from}
use Rattle.files.specs.Walk.{has_id, find_id}
use Rattle.files.specs.Counting.{counting_row}
use Rattle.duties.specs.Duty.{width1, width2, energy1, energy2, credit1, credit2, payer, weight, cap}
use Rattle.duties.specs.Duties.{duties_of}
use Rattle.duties.specs.Average.{windless, average_of}
use Rattle.merit.specs.Call.{cheaper_in, cheaper, group, due, called, calls, uncovered}
use Rattle.merit.specs.Price.{price}
use Rattle.levy.specs.Rounds.{opens, closes, closed, next, run, opening, final, visits_from, visits, open_weights, paid, payments, shortfall, cuts, returned}
use Rattle.statement.specs.Statement.{top_bytes, has_terms, head_in, terms_in, body_in}
use Rattle.settle.specs.Settlement.{first_turn, compensations_of, penalties_of, levied, figures}
use Rattle.settle.specs.Statement.{statement_head, statement_bytes}
use Rattle.settle.specs.Answer.{average_in, duties_in, figures_of, top_of, line_in, statement_of, settle_order, answer_of, buffer_after}
use Rattle.demands.specs.Requests.{file_of, settled_three, told, stated_file, ruled, settled_none, settled_reduced, visited, rungs, climbed, settled_low, request_table}
use Rattle.demands.specs.Table.{interval_x, settled_x, Entry, entry, figures_table, same, all_right}

all_right-holds : (all_right figures_table && all_right request_table) ≡ true
unfolding sum_to count_to sum_where max_to max_where find_to whole table number_at number_bytes fields_bytes fields_at record_at record_bytes records_bytes put column_of
    quota rest turn before rank left share shares
    first_refusal row_by_row previous head_at row_at correction_head_at head_tests head_ok terms_tests terms_ok status_ok idle_tests not_offering offer_tests offering row_tests row_ok
    front_checks head_checks row_checks row_checks_at row_checks_of interval_order file_order terms_at terms_bytes known states terms_of rows_from has_id find_id counting_row
    width1 width2 energy1 energy2 credit1 credit2 payer weight cap windless average_of duties_of cheaper_in cheaper group due called calls uncovered price
    opens closes closed next run opening final visits_from visits open_weights paid payments shortfall cuts returned first_turn compensations_of penalties_of levied figures
    top_bytes has_terms head_in terms_in body_in statement_head statement_bytes
    average_in duties_in figures_of top_of line_in statement_of settle_order answer_of buffer_after
    interval_x settled_x figures_table file_of settled_three told stated_file ruled settled_none settled_reduced visited rungs climbed settled_low request_table same all_right
all_right-holds = refl

same-is : (xs ys : List ℕ) → same xs ys ≡ true → xs ≡ ys
unfolding same
same-is [] [] e = refl
same-is [] (y ∷ ys) e = absurd (subst T (sym e) tt)
same-is (x ∷ xs) [] e = absurd (subst T (sym e) tt)
same-is (x ∷ xs) (y ∷ ys) e =
    ap₂ ◌∷◌ (eqb-true x y (left-true (eqb x y) (same xs ys) e)) (same-is xs ys (right-true (eqb x y) (same xs ys) e))

right-at : (es : List Entry) → all_right es ≡ true → (k : ℕ) → k < length es → (get_or es k (entry [] [])).worked ≡ (get_or es k (entry [] [])).paper
unfolding all_right
right-at [] e k l = absurd (not-suc-le-zero l)
right-at (x ∷ es) e zero l = same-is x.worked x.paper (left-true (same x.worked x.paper) (all_right es) e)
right-at (x ∷ es) e (suc k) l =
    right-at es (right-true (same x.worked x.paper) (all_right es) e) k (le_of_suc-le-suc l)

pub worked-figures : (k : ℕ) → k < length figures_table → (get_or figures_table k (entry [] [])).worked ≡ (get_or figures_table k (entry [] [])).paper
worked-figures = right-at figures_table (left-true (all_right figures_table) (all_right request_table) all_right-holds)

pub request-figures : (k : ℕ) → k < length request_table → (get_or request_table k (entry [] [])).worked ≡ (get_or request_table k (entry [] [])).paper
request-figures = right-at request_table (right-true (all_right figures_table) (all_right request_table) all_right-holds)
