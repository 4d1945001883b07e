-- Two results that one contract allows are equal, for each public function: theorems of the contract itself (`Learnt`).
use Prim.Native.Nat.{ℕ, ◌≤◌, ◌<◌}
use mathlib.Core.Path.{◌≡◌, sym, ◌∙◌}
use mathlib.Core.Logic.{⊎_elim}
use mathlib.Core.List.{List}
use native.Mathlib.Omega.{arith}
use Rattle.columns.proofs.Sum.{lt-or-le}
use Rattle.columns.proofs.Unique.{LeavesOne, OneResult}
use Rattle.files.specs.Walk.{Sought}
use Rattle.files.proofs.Told.{told-one, fault-one}
use Rattle.files.proofs.read.head_at.Reads as head_at
use Rattle.files.proofs.read.row_at.Reads as row_at
use Rattle.files.proofs.read.correction_head_at.Reads as correction-head-at
use Rattle.files.proofs.read.id_at.Reads as id-at
use Rattle.files.proofs.forms.form_of.Reads as form_of
use Rattle.files.proofs.forms.known.Reads as known
use Rattle.files.proofs.forms.start_of.Reads as start_of_lem
use Rattle.files.proofs.forms.rows_from.Reads as rows-from
use Rattle.files.proofs.forms.ruling.Reads as ruling
use Rattle.files.proofs.forms.terms_fields.Reads as terms-fields
use Rattle.files.proofs.range.terms_ok.Reads as terms-ok
use Rattle.files.proofs.checks.front_fault.Reads as front-fault
use Rattle.files.proofs.range.head_ok.Reads as head_ok
use Rattle.files.proofs.range.correction_head_ok.Reads as correction-head-ok
use Rattle.files.proofs.range.row_ok.Reads as row_ok
use Rattle.files.proofs.range.row_checks.Reads as row-checks
use Rattle.files.proofs.checks.interval_verdict.Reads as interval
use Rattle.files.proofs.checks.check.Reads as check
use Rattle.files.proofs.counts.counting.Reads as counting
use Rattle.files.proofs.counts.sources.Reads as sources
use Rattle.files.proofs.counts.counting_row.Reads as counting-row
use Rattle.files.proofs.checks.row_count.Reads as row_count
use Rattle.files.proofs.checks.correction_count.Reads as correction-count
use Rattle.files.proofs.runs.Run.seek.Reads as seek
use Rattle.files.proofs.runs.Run.id.Reads as run-id
use Rattle.files.proofs.runs.Run.row.Reads as run-row
use Rattle.files.proofs.runs.Run.part.Reads as run-part
use Rattle.files.proofs.runs.Run.has.Reads as run-has
use Rattle.files.proofs.counts.part_at.Reads as part-at
use Rattle.files.proofs.faults.Fault.number.Reads as number
use Rattle.files.proofs.faults.RefusalFromFault.from.Reads as refusal-from

pub number-unique : OneResult number.Learnt
number-unique κs a x y e f p q = p.0 ∙ sym q.0

pub refusal-from-unique : OneResult refusal-from.Learnt
refusal-from-unique κs a x y e f p q = p ∙ sym q

pub head-at-unique : OneResult head_at.Learnt
head-at-unique κs a x y e f p q = p ∙ sym q

pub row-at-unique : OneResult row_at.Learnt
row-at-unique κs a x y e f p q = p ∙ sym q

pub correction-head-at-unique : OneResult correction-head-at.Learnt
correction-head-at-unique κs a x y e f p q = p ∙ sym q

pub id-at-unique : OneResult id-at.Learnt
id-at-unique κs a x y e f p q = p ∙ sym q

pub form-of-unique : OneResult form_of.Learnt
form-of-unique κs a x y e f p q = p ∙ sym q

pub known-unique : OneResult known.Learnt
known-unique κs a x y e f p q = p ∙ sym q

pub start-of-unique : OneResult start_of_lem.Learnt
start-of-unique κs a x y e f p q = p.0 ∙ sym q.0

pub rows-from-unique : OneResult rows-from.Learnt
rows-from-unique κs a x y e f p q = p.0 ∙ sym q.0

pub ruling-unique : OneResult ruling.Learnt
ruling-unique κs a x y e f p q = p ∙ sym q

pub terms-fields-unique : OneResult terms-fields.Learnt
terms-fields-unique κs a x y e f p q = p ∙ sym q

pub terms-ok-unique : OneResult terms-ok.Learnt
terms-ok-unique κs a x y e f p q = p ∙ sym q

pub front-fault-unique : OneResult front-fault.Learnt
front-fault-unique κs a x y e f p q = fault-one x y (p ∙ sym q)

pub head-ok-unique : OneResult head_ok.Learnt
head-ok-unique κs a x y e f p q = p ∙ sym q

pub correction-head-ok-unique : OneResult correction-head-ok.Learnt
correction-head-ok-unique κs a x y e f p q = p ∙ sym q

pub row-ok-unique : OneResult row_ok.Learnt
row-ok-unique κs a x y e f p q = p ∙ sym q

pub row-checks-unique : OneResult row-checks.Learnt
row-checks-unique κs a x y e f p q = fault-one x y (p ∙ sym q)

pub interval-unique : OneResult interval.Learnt
interval-unique κs a x y e f p q = told-one x y (p ∙ sym q)

pub check-unique : OneResult check.Learnt
check-unique κs a x y e f p q = told-one x y (p ∙ sym q)

pub counting-unique : LeavesOne counting.Learnt (λ κs x y e f. x.now ≡ y.now)
counting-unique κs a x y e f p q = p ∙ sym q

pub sources-unique : LeavesOne sources.Learnt (λ κs x y e f. e.1.1.1.0.now ≡ f.1.1.1.0.now)
sources-unique κs a x y e f p q = p ∙ sym q

pub counting-row-unique : OneResult counting-row.Learnt
counting-row-unique κs a x y e f p q = p ∙ sym q

pub row-count-unique : OneResult row_count.Learnt
row-count-unique κs a x y e f p q = p.0 ∙ sym q.0

pub correction-count-unique : OneResult correction-count.Learnt
correction-count-unique κs a x y e f p q = p.0 ∙ sym q.0

pub part-at-unique : LeavesOne part-at.Learnt (λ κs x y e f. x.now ≡ y.now)
part-at-unique κs a x y e f p q = p ∙ sym q

pub run-id-unique : OneResult run-id.Learnt
run-id-unique κs a x y e f p q = p ∙ sym q

pub run-row-unique : OneResult run-row.Learnt
run-row-unique κs a x y e f p q = p ∙ sym q

pub run-part-unique : LeavesOne run-part.Learnt (λ κs x y e f. x.now ≡ y.now)
run-part-unique κs a x y e f p q = p ∙ sym q

pub run-has-unique : OneResult run-has.Learnt
run-has-unique κs a x y e f p q = p ∙ sym q

-- no row that is sought comes after another
not-later : (s : List ℕ) (start size n id r q : ℕ) → Sought s start size n id r → Sought s start size n id q → r ≤ q
not-later s start size n id r q w v =
    ⊎_elim (λ (l : q < r). absurd (omega (arith, w.under q l, v.reached (omega (arith, w.short))))) (λ (l : r ≤ q). l) (lt-or-le q r)

pub seek-unique : OneResult seek.Learnt
seek-unique κs a x y e f p q = omega (arith, not-later _ _ _ _ _ _ _ p q, not-later _ _ _ _ _ _ _ q p)
