-- Two results that the contract of `settle` allows are equal, answer and buffer: a theorem of the contract itself (`Learnt`).
use mathlib.Core.Path.{◌≡◌, sym, ◌∙◌}
use Rattle.columns.proofs.Unique.{LeavesOne}
use Rattle.files.proofs.Told.{told-one}
use Rattle.settle.proofs.settle.Reads as settle

pub settle-unique : LeavesOne settle.Learnt (λ κs x y e f. (x ≡ y) × (e.1.1.0.now ≡ f.1.1.0.now))
settle-unique κs a x y e f p q = (told-one x y (p.0 ∙ sym q.0), p.1 ∙ sym q.1)
