-- The figures by the definitions: which number each trial file gets.
use mathlib.Core.Path.{◌≡◌, refl, ◌∙◌}
use Prim.Native.Nat.{ℕ, ◌+◌}
use mathlib.Core.Bool.{true}
use mathlib.Core.List.{List, []}
use lib.Dec.{eqb}
use lib.ListN.{take, set}
use borrow.Author.Tests.{eq-eqb}
use Rattle.columns.specs.Checks.{first_refusal, row_by_row, previous}
use Rattle.records.specs.Number.{number_at}
use Rattle.records.specs.Record.{fields_at, record_at}
use Rattle.files.specs.Layout.{head_at, row_at}
use Rattle.files.specs.Form.{terms_at, known, states, terms_of, rows_from}
use Rattle.files.specs.Range.{head_tests, head_ok, terms_tests, terms_ok, status_ok, idle_tests, not_offering, offer_tests, offering, row_tests, row_ok}
use Rattle.files.specs.Order.{front_checks, head_checks, row_checks, row_checks_at, row_checks_of, interval_order, file_order, verdict_of}
use Rattle.files.specs.Verdict.{Verdict, number_of}
use Rattle.files_try.specs.Tried.{answer_of, stated, stated_answer}

pub record Figures : Type 0 where
  pub capacity_2000 : answer_of 2000 320 ≡ 0
  pub capacity_2001 : answer_of 2001 320 ≡ 6
  pub bid_99 : answer_of 100 99 ≡ 6
  pub bid_100 : answer_of 100 100 ≡ 0
  pub bid_320 : answer_of 100 320 ≡ 0
  pub bid_321 : answer_of 100 321 ≡ 6

pub figures : Figures
unfolding answer_of verdict_of file_order interval_order head_checks front_checks known states rows_from terms_of terms_ok terms_tests row_checks_of row_checks_at row_checks
    first_refusal row_by_row previous head_ok head_tests row_ok row_tests status_ok not_offering idle_tests offering offer_tests head_at row_at record_at fields_at number_at
figures =
    record {
      capacity_2000 = refl;
      capacity_2001 = refl;
      bid_99 = refl;
      bid_100 = refl;
      bid_320 = refl;
      bid_321 = refl;
    }

-- files that state their terms: each end of the ranges of these
pub record Terms : Type 0 where
  pub sound : stated_answer 45 0 80 71 45 ≡ 0
  pub percent_40 : stated_answer 40 0 80 71 45 ≡ 14
  pub percent_41 : stated_answer 41 0 80 71 45 ≡ 0
  pub percent_50 : stated_answer 50 0 80 71 45 ≡ 0
  pub percent_51 : stated_answer 51 0 80 71 45 ≡ 14
  pub lowest1_0 : stated_answer 45 16 0 0 45 ≡ 14
  pub lowest1_1 : stated_answer 45 16 1 0 45 ≡ 0
  pub lowest1_329 : stated_answer 45 16 73 1 45 ≡ 6
  pub lowest1_330 : stated_answer 45 16 74 1 45 ≡ 14
  pub highest1_331 : stated_answer 45 18 75 1 45 ≡ 14
  pub lowest2_329 : stated_answer 45 20 73 1 45 ≡ 14
  pub lowest2_760 : stated_answer 45 20 248 2 45 ≡ 14
  pub lowest2_400 : stated_answer 45 20 144 1 45 ≡ 0
  pub highest2_1000 : stated_answer 45 22 232 3 45 ≡ 0
  pub highest2_1001 : stated_answer 45 22 233 3 45 ≡ 14

pub terms : Terms
unfolding stated_answer verdict_of file_order interval_order head_checks front_checks known states rows_from terms_of terms_at terms_ok terms_tests row_checks_of
    row_checks_at row_checks first_refusal row_by_row previous head_ok head_tests row_ok row_tests status_ok not_offering idle_tests offering offer_tests head_at
    row_at record_at fields_at number_at
terms =
    record {
      sound = refl;
      percent_40 = refl;
      percent_41 = refl;
      percent_50 = refl;
      percent_51 = refl;
      lowest1_0 = refl;
      lowest1_1 = refl;
      lowest1_329 = refl;
      lowest1_330 = refl;
      highest1_331 = refl;
      lowest2_329 = refl;
      lowest2_760 = refl;
      lowest2_400 = refl;
      highest2_1000 = refl;
      highest2_1001 = refl;
    }

-- the checks around 14 in their order
pub record Order : Type 0 where
  pub mark_f : stated_answer 45 0 80 70 45 ≡ 2
  pub one_before_2 : stated_answer 45 0 80 70 14 ≡ 1
  pub two_before_14 : stated_answer 40 0 80 70 45 ≡ 2
  pub one_before_14 : stated_answer 40 0 80 71 23 ≡ 1
  pub one_before_3 : stated_answer 45 7 0 0 23 ≡ 1
  pub length_24 : stated_answer 45 0 80 71 24 ≡ 4
  pub tariff_0 : stated_answer 45 7 0 0 45 ≡ 3
  pub three_before_14 : stated_answer 40 7 0 0 45 ≡ 3
  pub length_44 : stated_answer 45 0 80 71 44 ≡ 4
  pub fourteen_before_4 : stated_answer 40 0 80 71 44 ≡ 14
  pub row_mark : stated_answer 45 24 80 83 45 ≡ 5
  pub fourteen_before_5 : stated_answer 40 24 80 83 45 ≡ 14

pub order : Order
unfolding stated_answer verdict_of file_order interval_order head_checks front_checks known states rows_from terms_of terms_at terms_ok terms_tests row_checks_of
    row_checks_at row_checks first_refusal row_by_row previous head_ok head_tests row_ok row_tests status_ok not_offering idle_tests offering offer_tests head_at
    row_at record_at fields_at number_at
order =
    record {
      mark_f = refl;
      one_before_2 = refl;
      two_before_14 = refl;
      one_before_14 = refl;
      one_before_3 = refl;
      length_24 = refl;
      tariff_0 = refl;
      three_before_14 = refl;
      length_44 = refl;
      fourteen_before_4 = refl;
      row_mark = refl;
      fourteen_before_5 = refl;
    }

-- ranges of a row that follow the terms
pub record Rows : Type 0 where
  pub bid1_149 : stated_answer 45 41 149 0 45 ≡ 6
  pub bid1_150 : stated_answer 45 41 150 0 45 ≡ 0
  pub bid1_330 : stated_answer 45 41 74 1 45 ≡ 0
  pub bid1_331 : stated_answer 45 41 75 1 45 ≡ 6
  pub bid2_329 : stated_answer 45 43 73 1 45 ≡ 6
  pub bid2_330 : stated_answer 45 43 74 1 45 ≡ 0
  pub bid2_760 : stated_answer 45 43 248 2 45 ≡ 0
  pub bid2_761 : stated_answer 45 43 249 2 45 ≡ 6
  pub minimum_11250 : stated_answer 45 37 242 43 45 ≡ 0
  pub minimum_11251 : stated_answer 45 37 243 43 45 ≡ 6

pub rows : Rows
unfolding stated_answer verdict_of file_order interval_order head_checks front_checks known states rows_from terms_of terms_at terms_ok terms_tests row_checks_of
    row_checks_at row_checks first_refusal row_by_row previous head_ok head_tests row_ok row_tests status_ok not_offering idle_tests offering offer_tests head_at
    row_at record_at fields_at number_at
rows =
    record {
      bid1_149 = refl;
      bid1_150 = refl;
      bid1_330 = refl;
      bid1_331 = refl;
      bid2_329 = refl;
      bid2_330 = refl;
      bid2_760 = refl;
      bid2_761 = refl;
      minimum_11250 = refl;
      minimum_11251 = refl;
    }

pub told : (c b n r : ℕ) → answer_of c b ≡ n → r ≡ answer_of c b → eqb r n ≡ true
told c b n r e h = eq-eqb r n (h ∙ e)

pub stated-told : (percent k low high count n r : ℕ) → stated_answer percent k low high count ≡ n → r ≡ stated_answer percent k low high count
    → eqb r n ≡ true
stated-told percent k low high count n r e h = eq-eqb r n (h ∙ e)

-- the number, as the code comes to it
pub stated-number : (percent k low high count r : ℕ) (file : List ℕ) (v : Verdict) → file ≡ stated percent
    → v ≡ verdict_of (take count (set (set file k low) (k + 1) high)) [] → r ≡ number_of v → r ≡ stated_answer percent k low high count
unfolding stated_answer
stated-number percent k low high count r file v e p q = q ∙ rw (p, e)
