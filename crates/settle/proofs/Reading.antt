-- The first stage, row by row, as its proof asks for it.
--   lined-none, lined-more     no line put, and the next row's behind those of the rows passed
--   own-sources, found-sources, source-at-row, source-room, source_fits     the sources without a correction and with one, and one of them
--   Scanning       how far the scan for the average has come before row i
--   scanning-none, scanning-more, scanning-stop, energy-fits, capacity-fits, scanning-all     its start, one row more, a row that stirs, sums that fit, its end
--   low-found      an average that rules is that of low sums
--   usual-duty     without an average that rules, the duties are the usual ones
--   flag-told, read_told      the flag and the lines by the head's need and tariff
--   duty-put       a record of the fields of a row's duties is its line
--   reads-start, terms-low     what a job says is the file's, and its baseline is below 60 percent
--   reads_of       a job made of the file's form
--   row-ranged, row_inside     of one row: it is in its ranges, and its position is one of 256
use Prim.Native.Nat.{ℕ, ◌+◌, ◌*◌, ◌^◌, ◌≤◌, ◌<◌}
use mathlib.Core.Path.{◌≡◌, refl, sym, ap, ◌∙◌}
use mathlib.Core.Logic.{⊎_elim}
use mathlib.Core.Bool.{Bool, true, false, cond, true≢false}
use mathlib.Core.List.{List, [], ◌∷◌}
use native.Mathlib.Omega.{arith}
use lib.ListN.{length, replicate}
use mir.Syntax.{w64}
use mir.Val.{Fits, bool_byte}
use Rattle.columns.specs.Sum.{bit}
use Rattle.columns.specs.Table.{at, table}
use Rattle.records.specs.Buffer.{put}
use Rattle.records.specs.Record.{record_bytes}
use Rattle.columns.proofs.Listed.{one-is}
use Rattle.columns.proofs.Rank.{test-or}
use Rattle.columns.proofs.Table.{table-length}
use Rattle.records.proofs.Buffer.{put-length}
use Rattle.records.proofs.Sheet.{sheet-none, sheet-next}
use Rattle.files.specs.Form.{terms_of, form_of, start_of, rows_from}
use Rattle.files.specs.Layout.{head_at}
use Rattle.files.specs.Terms.{baseline}
use Rattle.files.specs.Order.{verdict_of}
use Rattle.files.specs.Counting.{source_of, counting_row}
use Rattle.files.specs.declared.Form.{Form}
use Rattle.files.specs.declared.Head.{Head}
use Rattle.files.specs.declared.Row.{Row}
use Rattle.files.specs.Verdict.{Accepted}
use Rattle.files.proofs.Walked.{start-told}
use Rattle.files.proofs.Laws.{accepted-few, accepted-sound, accepted-ranges, accepted-count, source-at, no_source}
use Rattle.duties.specs.Average.{stirs, windless, usual, joined, average_of, average_at, base_of, Low}
use Rattle.duties.specs.Duty.{duty_of}
use Rattle.duties.specs.Ranged.{Ranged}
use Rattle.duties.specs.declared.Duty.{Duty}
use Rattle.duties.specs.declared.average.Average.{Average}
use Rattle.duties.proofs.Laws.{in-range}
use Rattle.duties.proofs.Reached.{low_of}
use Rattle.duties.proofs.Averages.{not-averaged, Scanned, scanned-none, scanned-more, scanned-stop, scanned-all, scanned-fits}
use Rattle.levy.proofs.Arrays.{zeros-at}
use Rattle.statement.specs.Statement.{letter_l, line_widths, head_size, line_start}
use Rattle.settle.specs.Answer.{average_in}
use Rattle.settle.specs.Work.{lined, duty_line, row_line, Sourced, Reads, DutiesBy}
use Rattle.settle.specs.declared.rows.Job.{Job}
use Rattle.units.specs.declared.Hao.{Hao}

pub duty-put : (s t : List ℕ) (from id : ℕ) (d : Duty) (named w1 w2 e1 e2 w x1 x2 : ℕ) → named ≡ id → w1 ≡ d.width1.0 → w2 ≡ d.width2.0
    → e1 ≡ d.energy1.0 → e2 ≡ d.energy2.0 → w ≡ d.weight.0 → x1 ≡ d.credit1.0 → x2 ≡ d.credit2.0
    → t ≡ put s from
    (record_bytes letter_l line_widths (named ∷ w1 ∷ w2 ∷ e1 ∷ e2 ∷ w ∷ d.cap.0 ∷ d.bid2.0 ∷ d.bid1.0 ∷ x1 ∷ x2 ∷ []))
    → t ≡ put s from (record_bytes letter_l line_widths (duty_line id d))
duty-put s t from id d named w1 w2 e1 e2 w x1 x2 h0 h1 h2 h3 h4 h5 h6 h7 made =
    made
    ∙ (λ j. put s from
    (record_bytes letter_l line_widths
    (h0 j ∷ h1 j ∷ h2 j ∷ h3 j ∷ h4 j ∷ h5 j ∷ d.cap.0 ∷ d.bid2.0 ∷ d.bid1.0 ∷ h6 j ∷ h7 j ∷ [])))

pub reads-start : (j : Job) (s : List ℕ) → Reads j s → j.start ≡ rows_from s
reads-start j s reads = reads.start

pub terms-low : (s k : List ℕ) (n : ℕ) (j : Job) → verdict_of s k ≡ Accepted n → Reads j s → j.terms.percent ≤ 60
terms-low s k n j ok reads = rw reads.terms (omega (arith, (accepted-sound s k n ok).below))

pub reads_of : (s : List ℕ) (f : Form) (start : ℕ) (tariff : Hao) → f ≡ form_of s → start ≡ start_of f.stated
    → Reads (record { start = start; terms = f.terms; tariff = tariff }) s
reads_of s f start tariff e g = record { start = start-told s f start e g; terms = ap (λ (x : Form). x.terms) e }

module _ (n : ℕ) (s k : List ℕ) (i : ℕ) (ok : verdict_of s k ≡ Accepted n) (l : i < n) (row : Row) (is : row ≡ counting_row s k i) where
  pub row-ranged : Ranged row
  row-ranged = rw is (in-range (terms_of s) (counting_row s k i) (accepted-ranges s k n ok i l))

  pub row_inside : i < 256
  row_inside = omega (arith, accepted-few s k n ok)

  -- its line behind those of the rows passed
  pub lined-more : (job : Job) (reads : Reads job s) (pre : Average → Row → Type 0) (post : Average → Row → Duty → Type 0) (a : Average)
      → DutiesBy pre post a job → (d : Duty) → post a row d → (out sheet t : List ℕ) → line_start n ≤ length out
      → sheet ≡ lined out i (row_line job.tariff.0 a s k) → t ≡ put sheet (line_start i) (record_bytes letter_l line_widths (duty_line row.id d))
      → t ≡ lined out (i + 1) (row_line job.tariff.0 a s k)
  lined-more job reads pre post a duties d made out sheet t room before putting =
      let due = duties.is row d row-ranged made
      ∙ (λ m. duty_of (baseline (reads.terms m) (is m).capacity) (base_of (reads.terms m) a (is m).capacity) job.tariff.0 (is m)) in
      putting
      ∙ (λ j. put (before j) (line_start i) (record_bytes letter_l line_widths (duty_line (is j).id (due j))))
      ∙ sheet-next head_size letter_l line_widths out i (row_line job.tariff.0 a s k) (λ j. refl) (omega arith)

pub lined-none : (tariff : ℕ) (a : Average) (s k out : List ℕ) → out ≡ lined out 0 (row_line tariff a s k)
lined-none tariff a s k out = sym (sheet-none head_size letter_l line_widths out (row_line tariff a s k))

-- without an average that rules, the duties are the usual ones
pub usual-duty : (a : Average) (j : Job) (r : Row) (d : Duty) → a.rules ≡ false
    → d ≡ duty_of (baseline j.terms r.capacity) (baseline j.terms r.capacity) j.tariff.0 r
    → d ≡ duty_of (baseline j.terms r.capacity) (base_of j.terms a r.capacity) j.tariff.0 r
usual-duty a j r d none made =
    made ∙ (λ i. duty_of (baseline j.terms r.capacity) (cond (sym none i) (average_at a r.capacity) (baseline j.terms r.capacity)) j.tariff.0 r)

pub blank-long : (sources : List ℕ) → sources ≡ replicate 256 0 → length sources ≡ 256
blank-long sources blank = rw blank refl

-- where each row stands that counts: in no correction, or where the list that was made says
module _ (n : ℕ) (s k : List ℕ) (ok : verdict_of s k ≡ Accepted n) where
  pub own-sources : (sources : List ℕ) → length k ≡ 0 → sources ≡ replicate 256 0 → Sourced n s k sources
  own-sources sources none blank =
      record { long = blank-long sources blank; each = λ i l. rw blank (zeros-at 256 i) ∙ no_source s k n i ok none }

  pub found-sources : (start sources : List ℕ) → start ≡ replicate 256 0 → sources ≡ put start 0 (table n (source_of s k)) → Sourced n s k sources
  found-sources start sources blank made =
      let long = table-length n (source_of s k) in
      record {
        long =
            ap length made
            ∙ put-length start 0 (table n (source_of s k)) (omega (arith, long, blank-long start blank, accepted-few s k n ok))
            ∙ blank-long start blank;
        each = λ i l. rw made (source-at start n (source_of s k) i l);
      }

  module _ (sources : List ℕ) (i : ℕ) (sourced : Sourced n s k sources) (l : i < n) where
    pub source-at-row : at sources i ≡ source_of s k i
    source-at-row = sourced.each i l

  pub source-room : (i : ℕ) → i < n → i < 256
  source-room i l = omega (arith, accepted-few s k n ok)

  pub source_fits : (i : ℕ) → i < n → Fits w64 (i * 2)
  source_fits i l = omega (arith, accepted-few s k n ok)

-- how far the scan for the average has come before row i
pub record Scanning (n : ℕ) (s k : List ℕ) (i : ℕ) (a : Average) : Type 0 where
  pub within : i ≤ n
  pub scanned : Scanned (terms_of s) (counting_row s k) i a

pub scanning-none : (n : ℕ) (s k : List ℕ) → Scanning n s k 0 usual
scanning-none n s k = record { within = omega arith; scanned = scanned-none (terms_of s) (counting_row s k) }

module _ (n : ℕ) (s k : List ℕ) (i : ℕ) (a : Average) (scanning : Scanning n s k i a) where
  module _ (job : Job) (reads : Reads job s) (r : Row) (is : r ≡ counting_row s k i) (x : Bool) (tested : x ≡ stirs job.terms r) (l : i < n) where
    by-terms : x ≡ stirs (terms_of s) r
    by-terms = tested ∙ (λ j. stirs (reads.terms j) r)

    pub scanning-more : (b : Average) → x ≡ false → b ≡ joined a r → Scanning n s k (i + 1) b
    scanning-more b calm made =
        record {
          within = omega arith;
          scanned = scanned-more (terms_of s) (counting_row s k) i a scanning.scanned r x b is by-terms calm made;
        }

    pub scanning-stop : (need : ℕ) → x ≡ true → usual ≡ average_of (terms_of s) need n (counting_row s k)
    scanning-stop need on = scanned-stop (terms_of s) (counting_row s k) i a scanning.scanned need n r x l is by-terms on

  module _ (r : Row) (ok : verdict_of s k ≡ Accepted n) (l : i < n) (is : r ≡ counting_row s k i) where
    fits : (a.energy.0 + r.metered.0 < 2 ^ 32) × (a.capacity + r.capacity < 2 ^ 32)
    fits = scanned-fits (terms_of s) (counting_row s k) i a scanning.scanned n (accepted-few s k n ok) l (accepted-ranges s k n ok) r is

    pub energy-fits : a.energy.0 + r.metered.0 < 2 ^ 32
    energy-fits = fits.0

    pub capacity-fits : a.capacity + r.capacity < 2 ^ 32
    capacity-fits = fits.1

  pub scanning-all : (need : ℕ) → (need ≡ 0 → ⊥) → n ≤ i → a ≡ average_of (terms_of s) need n (counting_row s k)
  scanning-all need some up =
      scanned-all (terms_of s) (counting_row s k) i a scanning.scanned need n (omega arith) (omega (arith, scanning.within))

-- an average that rules is that of low sums
pub low-found : (n need : ℕ) (s k : List ℕ) (a : Average) → verdict_of s k ≡ Accepted n → a ≡ average_of (terms_of s) need n (counting_row s k)
    → a.rules ≡ true → Low a
low-found n need s k a ok found rules =
    rw found
    (⊎_elim
    (λ (is : windless (terms_of s) need n (counting_row s k) ≡ true).
    low_of (terms_of s) need n (counting_row s k) (accepted-ranges s k n ok) is (accepted-sound s k n ok))
    (λ (is : windless (terms_of s) need n (counting_row s k) ≡ false).
    absurd (true≢false (sym rules ∙ ap (λ (x : Average). x.rules) (found ∙ not-averaged (terms_of s) need n (counting_row s k) is))))
    (test-or (windless (terms_of s) need n (counting_row s k))))

-- the rows' lines and the flag by what the head says
module _ (n : ℕ) (s k : List ℕ) (ok : verdict_of s k ≡ Accepted n) (h : Head) (is : h ≡ head_at s) (a : Average)
    (found : a ≡ average_of (terms_of s) h.need.0 n (counting_row s k)) where
  average-is : a ≡ average_in s k
  unfolding average_in
  average-is = found ∙ (λ j. average_of (terms_of s) (is j).need.0 (accepted-count s k n ok j) (counting_row s k))

  pub flag-told : bool_byte a.rules ≡ bit (average_in s k).rules
  flag-told = (one-is a.rules).0 ∙ ap (λ (x : Average). bit x.rules) average-is

  pub read_told : (tariff : ℕ) (out sheet : List ℕ) → tariff ≡ h.tariff.0 → sheet ≡ lined out n (row_line tariff a s k)
      → sheet ≡ lined out n (row_line (head_at s).tariff.0 (average_in s k) s k)
  read_told tariff out sheet paid made =
      made ∙ (λ j. lined out n (row_line ((paid ∙ ap (λ (x : Head). x.tariff.0) is) j) (average-is j) s k))
