-- What `tell` prints, letter by letter, worked out from the bytes that it reads.
--   shown-statement   interval X at tariff 1300: a head and three lines (01, Checked figures)
--   shown-stated      the same rows at 45 percent, stated: the terms stand in front of the visits and the flag
--   shown-refusal     the empty file: number 1, place 0
use mathlib.Core.Path.{◌≡◌, refl}
use mathlib.Core.List.{[], ◌∷◌}
use Rattle.columns.specs.Sum.{sum_to, count_to, sum_where, max_to, max_where, find_to, whole}
use Rattle.columns.specs.Table.{table}
use Rattle.columns.specs.Checks.{first_refusal, row_by_row, previous}
use Rattle.records.specs.Number.{number_at, number_bytes}
use Rattle.records.specs.Fields.{fields_bytes}
use Rattle.records.specs.Record.{fields_at, record_at, record_bytes, records_bytes}
use Rattle.share.specs.Share.{quota, rest, turn, before, rank, left, share, shares}
use Rattle.files.specs.Layout.{head_at, row_at, correction_head_at}
use Rattle.files.specs.Range.{head_ok, head_tests, terms_ok, terms_tests, status_ok, idle_tests, not_offering, offer_tests, offering, row_tests, row_ok}
use Rattle.files.specs.Order.{front_checks, head_checks, row_checks, row_checks_at, row_checks_of, interval_order, file_order}
use Rattle.files.specs.Form.{terms_at, terms_bytes, known, states, terms_of, rows_from}
use Rattle.files.specs.Walk.{has_id, find_id}
use Rattle.files.specs.Counting.{counting_row}
use Rattle.duties.specs.Duty.{width1, width2, energy1, energy2, credit1, credit2, payer, weight, cap}
use Rattle.duties.specs.Duties.{duties_of}
use Rattle.duties.specs.Average.{windless, average_of}
use Rattle.merit.specs.Call.{cheaper_in, cheaper, group, due, called, calls, uncovered}
use Rattle.merit.specs.Price.{price}
use Rattle.levy.specs.Rounds.{opens, closes, closed, next, run, opening, final, visits_from, visits, open_weights, paid, payments, shortfall, cuts, returned}
use Rattle.statement.specs.Statement.{top_bytes, has_terms, body_in}
use Rattle.settle.specs.Settlement.{first_turn, compensations_of, penalties_of, levied, figures}
use Rattle.settle.specs.Statement.{statement_head, statement_bytes}
use Rattle.settle.specs.Answer.{average_in, duties_in, figures_of, top_of, line_in, statement_of, settle_order, answer_of}
use Rattle.demands.specs.Table.{interval_x}
use Rattle.demands.specs.Requests.{stated_file, at45, rows_x}
use Rattle.telling.specs.Text.{decimal_in, text_to, lines_to, head_text, statement_text, refused_text, told_text, tell_text}

pub shown-statement : tell_text (interval_x 1300)
    ≡ 48 ∷ 32 ∷ 48 ∷ 32 ∷ 50 ∷ 48 ∷ 48 ∷ 32 ∷ 52 ∷ 48 ∷ 48 ∷ 32 ∷ 57 ∷ 48 ∷ 48 ∷ 48 ∷ 48 ∷ 32 ∷ 48 ∷ 32 ∷ 49 ∷ 32 ∷ 48 ∷ 32 ∷ 51 ∷ 32 ∷ 51 ∷ 32 ∷ 48 ∷ 10
    ∷ 49 ∷ 32 ∷ 50 ∷ 53 ∷ 48 ∷ 48 ∷ 32 ∷ 53 ∷ 48 ∷ 48 ∷ 32 ∷ 57 ∷ 48 ∷ 48 ∷ 48 ∷ 48 ∷ 32 ∷ 48 ∷ 32 ∷ 48 ∷ 32 ∷ 48 ∷ 32 ∷ 48 ∷ 32 ∷ 48 ∷ 32 ∷ 48 ∷ 32 ∷ 48 ∷ 10
    ∷ 50 ∷ 32 ∷ 48 ∷ 32 ∷ 48 ∷ 32 ∷ 48 ∷ 32 ∷ 48 ∷ 32 ∷ 49 ∷ 53 ∷ 48 ∷ 48 ∷ 48 ∷ 32 ∷ 54 ∷ 53 ∷ 48 ∷ 48 ∷ 48 ∷ 32 ∷ 54 ∷ 53 ∷ 48 ∷ 48 ∷ 48 ∷ 32 ∷ 49 ∷ 32 ∷ 48 ∷ 32 ∷ 48 ∷ 10
    ∷ 51 ∷ 32 ∷ 48 ∷ 32 ∷ 48 ∷ 32 ∷ 48 ∷ 32 ∷ 48 ∷ 32 ∷ 53 ∷ 48 ∷ 48 ∷ 48 ∷ 32 ∷ 51 ∷ 50 ∷ 53 ∷ 48 ∷ 48 ∷ 32 ∷ 50 ∷ 53 ∷ 48 ∷ 48 ∷ 48 ∷ 32 ∷ 48 ∷ 32 ∷ 48 ∷ 32 ∷ 48 ∷ 10 ∷ []
unfolding sum_to count_to sum_where max_to max_where find_to whole table number_at number_bytes fields_bytes fields_at record_at record_bytes records_bytes
    quota rest turn before rank left share shares
    first_refusal row_by_row previous head_at row_at correction_head_at head_tests head_ok terms_tests terms_ok status_ok idle_tests not_offering offer_tests offering row_tests row_ok
    front_checks head_checks row_checks row_checks_at row_checks_of interval_order file_order terms_at terms_bytes known states terms_of rows_from has_id find_id counting_row
    width1 width2 energy1 energy2 credit1 credit2 payer weight cap windless average_of duties_of cheaper_in cheaper group due called calls uncovered price
    opens closes closed next run opening final visits_from visits open_weights paid payments shortfall cuts returned first_turn compensations_of penalties_of levied figures
    top_bytes has_terms body_in statement_head statement_bytes average_in duties_in figures_of top_of line_in statement_of settle_order answer_of interval_x
    decimal_in text_to lines_to head_text statement_text told_text tell_text
shown-statement = refl

pub shown-stated : tell_text (stated_file at45 0 1300 3000 rows_x)
    ≡ 48 ∷ 32 ∷ 48 ∷ 32 ∷ 50 ∷ 48 ∷ 48 ∷ 32 ∷ 52 ∷ 48 ∷ 48 ∷ 32 ∷ 54 ∷ 53 ∷ 48 ∷ 48 ∷ 48 ∷ 32 ∷ 48 ∷ 32 ∷ 48 ∷ 32 ∷ 48 ∷ 32 ∷ 51 ∷ 32 ∷ 52 ∷ 53 ∷ 32 ∷ 49 ∷ 53 ∷ 48 ∷ 32 ∷ 51 ∷ 51 ∷ 48 ∷ 32 ∷ 51 ∷ 51 ∷ 48 ∷ 32 ∷ 55 ∷ 54 ∷ 48 ∷ 32 ∷ 50 ∷ 32 ∷ 48 ∷ 10
    ∷ 49 ∷ 32 ∷ 49 ∷ 50 ∷ 53 ∷ 48 ∷ 32 ∷ 49 ∷ 55 ∷ 53 ∷ 48 ∷ 32 ∷ 54 ∷ 53 ∷ 48 ∷ 48 ∷ 48 ∷ 32 ∷ 48 ∷ 32 ∷ 48 ∷ 32 ∷ 48 ∷ 32 ∷ 48 ∷ 32 ∷ 48 ∷ 32 ∷ 48 ∷ 32 ∷ 48 ∷ 10
    ∷ 50 ∷ 32 ∷ 48 ∷ 32 ∷ 48 ∷ 32 ∷ 48 ∷ 32 ∷ 48 ∷ 32 ∷ 49 ∷ 54 ∷ 50 ∷ 53 ∷ 48 ∷ 32 ∷ 54 ∷ 53 ∷ 48 ∷ 48 ∷ 48 ∷ 32 ∷ 52 ∷ 57 ∷ 55 ∷ 48 ∷ 54 ∷ 32 ∷ 48 ∷ 32 ∷ 48 ∷ 32 ∷ 48 ∷ 10
    ∷ 51 ∷ 32 ∷ 48 ∷ 32 ∷ 48 ∷ 32 ∷ 48 ∷ 32 ∷ 48 ∷ 32 ∷ 53 ∷ 48 ∷ 48 ∷ 48 ∷ 32 ∷ 51 ∷ 50 ∷ 53 ∷ 48 ∷ 48 ∷ 32 ∷ 49 ∷ 53 ∷ 50 ∷ 57 ∷ 52 ∷ 32 ∷ 48 ∷ 32 ∷ 48 ∷ 32 ∷ 48 ∷ 10 ∷ []
unfolding sum_to count_to sum_where max_to max_where find_to whole table number_at number_bytes fields_bytes fields_at record_at record_bytes records_bytes
    quota rest turn before rank left share shares
    first_refusal row_by_row previous head_at row_at correction_head_at head_tests head_ok terms_tests terms_ok status_ok idle_tests not_offering offer_tests offering row_tests row_ok
    front_checks head_checks row_checks row_checks_at row_checks_of interval_order file_order terms_at terms_bytes known states terms_of rows_from has_id find_id counting_row
    width1 width2 energy1 energy2 credit1 credit2 payer weight cap windless average_of duties_of cheaper_in cheaper group due called calls uncovered price
    opens closes closed next run opening final visits_from visits open_weights paid payments shortfall cuts returned first_turn compensations_of penalties_of levied figures
    top_bytes has_terms body_in statement_head statement_bytes average_in duties_in figures_of top_of line_in statement_of settle_order answer_of stated_file
    decimal_in text_to lines_to head_text statement_text told_text tell_text
shown-stated = refl

pub shown-refusal : tell_text [] ≡ 114 ∷ 101 ∷ 102 ∷ 117 ∷ 115 ∷ 101 ∷ 100 ∷ 32 ∷ 49 ∷ 32 ∷ 48 ∷ 10 ∷ []
unfolding first_refusal front_checks head_checks interval_order file_order settle_order answer_of number_at fields_at record_at head_at
    decimal_in refused_text told_text tell_text
shown-refusal = refl
