-- Two results that one contract allows are equal, word and buffer, for each export: theorems of the contract itself (`Learnt`).
use mathlib.Core.Path.{◌≡◌, sym, ◌∙◌}
use Rattle.columns.proofs.Unique.{LeavesOne}
use Rattle.abi.proofs.wheatrudder_settle.Reads as settle
use Rattle.abi.proofs.wheatrudder_row.Reads as row
use Rattle.abi.proofs.wheatrudder_rewrite.Reads as rewrite

pub settle-unique : LeavesOne settle.Learnt (λ κs x y e f. (x ≡ y) × (e.1.1.0.now ≡ f.1.1.0.now))
settle-unique κs a x y e f p q = (p.0 ∙ sym q.0, p.1 ∙ sym q.1)

pub row-unique : LeavesOne row.Learnt (λ κs x y e f. (x ≡ y) × (e.1.1.1.0.now ≡ f.1.1.1.0.now))
row-unique κs a x y e f p q = (p.0 ∙ sym q.0, p.1 ∙ sym q.1)

pub rewrite-unique : LeavesOne rewrite.Learnt (λ κs x y e f. (x ≡ y) × (e.1.0.now ≡ f.1.0.now))
rewrite-unique κs a x y e f p q = (p.0 ∙ sym q.0, p.1 ∙ sym q.1)
