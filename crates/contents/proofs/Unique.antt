-- Two results that one contract allows are equal, of `read`, of `write` and of `rewrite` (answer and buffer), and of `put_row` and
-- `put_head`, which only this crate calls: theorems of the contract itself (`Learnt`).
use Rattle.std.proofs.Common.{◌≡◌, ℕ, Result, sym, ◌∙◌, ap₂}
use Rattle.columns.proofs.Unique.{LeavesOne, OneResult}
use Rattle.files.specs.declared.faults.Refusal.{Refusal}
use Rattle.files.proofs.Told.{told-one}
use Rattle.contents.specs.declared.Contents.{Contents}
use Rattle.contents.specs.declared.Reading.{Reading}
use Rattle.contents.proofs.reader.read.Reads as read
use Rattle.contents.proofs.writer.write.Reads as write
use Rattle.contents.proofs.writer.put_row.Reads as put-row
use Rattle.contents.proofs.writer.put_head.Reads as put-head
use Rattle.contents.proofs.rewriter.rewrite.Reads as rewrite

reading : Result ℕ Refusal → Contents → Reading
reading v c = record { verdict = v; contents = c }

same-reading : (x y : Reading) → x.verdict ≡ y.verdict → x.contents ≡ y.contents → x ≡ y
unfolding reading
same-reading x y e f = ap₂ reading e f

pub read-unique : OneResult read.Learnt
read-unique κs a x y e f p q = same-reading x y (told-one x.verdict y.verdict (p.0 ∙ sym q.0)) (p.1 ∙ sym q.1)

pub write-unique : LeavesOne write.Learnt (λ κs x y e f. (x ≡ y) × (e.1.0.now ≡ f.1.0.now))
write-unique κs a x y e f p q = (told-one x y (p.0 ∙ sym q.0), p.1 ∙ sym q.1)

pub rewrite-unique : LeavesOne rewrite.Learnt (λ κs x y e f. (x ≡ y) × (e.1.0.now ≡ f.1.0.now))
rewrite-unique κs a x y e f p q = (told-one x y (p.0 ∙ sym q.0), p.1 ∙ sym q.1)

pub put-row-unique : LeavesOne put-row.Learnt (λ κs x y e f. e.0.now ≡ f.0.now)
put-row-unique κs a x y e f p q = p ∙ sym q

pub put-head-unique : LeavesOne put-head.Learnt (λ κs x y e f. e.0.now ≡ f.0.now)
put-head-unique κs a x y e f p q = p ∙ sym q
