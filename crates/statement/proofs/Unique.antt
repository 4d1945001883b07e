-- Two results that one contract allows are equal, for each public function: theorems of the contract itself (`Learnt`).
use mathlib.Core.Path.{◌≡◌, sym, ◌∙◌}
use Rattle.columns.proofs.Unique.{LeavesOne, OneResult}
use Rattle.statement.proofs.extra_of.Reads as extra-of
use Rattle.statement.proofs.head_in.Reads as head_in
use Rattle.statement.proofs.put_head.Reads as put-head

pub extra-of-unique : OneResult extra-of.Learnt
extra-of-unique κs a x y e f p q = p.0 ∙ sym q.0

pub head-in-unique : OneResult head_in.Learnt
head-in-unique κs a x y e f p q = p ∙ sym q

pub put-head-unique : LeavesOne put-head.Learnt (λ κs x y e f. e.0.now ≡ f.0.now)
put-head-unique κs a x y e f p q = p ∙ sym q
