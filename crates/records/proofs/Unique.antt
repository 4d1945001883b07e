-- Two results that one contract allows are equal, for each public function: theorems of the contract itself (`Learnt`).
use Prim.Native.Nat.{ℕ}
use mir.Syntax.{w64}
use mir.Val.{Fits}
use mathlib.Core.Path.{◌≡◌, sym, ◌∙◌}
use Rattle.columns.proofs.Unique.{LeavesOne, OneResult}
use Rattle.records.proofs.wide.Reads as wide
use Rattle.records.proofs.number_at.Reads as number_at
use Rattle.records.proofs.put_bytes.Reads as put-bytes
use Rattle.records.proofs.put_number.Reads as put-number
use Rattle.records.proofs.put_fields.Reads as put-fields
use Rattle.records.proofs.marked.Reads as marked
use Rattle.records.proofs.get_record.Reads as get-record
use Rattle.records.proofs.record_of.Reads as record-of
use Rattle.records.proofs.put_record.Reads as put_record
use Rattle.records.proofs.cells.cell.Reads as cell
use Rattle.records.proofs.cells.put_cell.Reads as put-cell
use Rattle.records.proofs.cells.get_column.Reads as get-column
use Rattle.records.proofs.cells.put_column.Reads as put-column

pub wide-unique : OneResult wide.Learnt
wide-unique κs a x y e f p q = p.0 ∙ sym q.0

pub number-at-unique : OneResult number_at.Learnt
number-at-unique κs a x y e f p q = p.0 ∙ sym q.0

pub put-bytes-unique : LeavesOne put-bytes.Learnt (λ κs x y e f. e.0.now ≡ f.0.now)
put-bytes-unique κs a x y e f p q = p ∙ sym q

pub put-number-unique : LeavesOne put-number.Learnt (λ κs x y e f. e.0.now ≡ f.0.now)
put-number-unique κs a x y e f p q = p ∙ sym q

pub put-fields-unique : LeavesOne put-fields.Learnt (λ κs x y e f. e.0.now ≡ f.0.now)
put-fields-unique κs a x y e f p q = p ∙ sym q

pub marked-unique : OneResult marked.Learnt
marked-unique κs a x y e f p q = p ∙ sym q

pub get-record-unique : LeavesOne get-record.Learnt (λ κs x y e f. e.1.1.1.0.now ≡ f.1.1.1.0.now)
get-record-unique κs a x y e f p q = p.0 ∙ sym q.0

-- at every length of table, a length being a number of 64 bits
pub record-of-unique : (n : ℕ) (fits : Fits w64 n) → OneResult (record-of.Learnt n fits)
record-of-unique n fits κs a x y e f p q = p.0 ∙ sym q.0

pub put-record-unique : LeavesOne put_record.Learnt (λ κs x y e f. e.0.now ≡ f.0.now)
put-record-unique κs a x y e f p q = p ∙ sym q

pub cell-unique : OneResult cell.Learnt
cell-unique κs a x y e f p q = p.0 ∙ sym q.0

pub put-cell-unique : LeavesOne put-cell.Learnt (λ κs x y e f. e.0.now ≡ f.0.now)
put-cell-unique κs a x y e f p q = p ∙ sym q

pub get-column-unique : LeavesOne get-column.Learnt (λ κs x y e f. e.1.1.0.now ≡ f.1.1.0.now)
get-column-unique κs a x y e f p q = p ∙ sym q

pub put-column-unique : LeavesOne put-column.Learnt (λ κs x y e f. e.0.now ≡ f.0.now)
put-column-unique κs a x y e f p q = p ∙ sym q
