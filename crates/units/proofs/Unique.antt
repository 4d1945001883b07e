-- Two results that one contract allows are equal, for each public function: theorems of the contract itself (`Learnt`).
use Prim.Native.Nat.{ℕ}
use mathlib.Core.Path.{◌≡◌, ap, sym, ◌∙◌}
use Rattle.columns.proofs.Unique.{LeavesOne, OneResult}
use Rattle.units.proofs.load.Reads as load
use Rattle.units.proofs.most.Reads as most
use Rattle.units.proofs.KwhFromU32.from.Reads as kwh-from
use Rattle.units.proofs.U32FromKwh.from.Reads as u32-from
use Rattle.units.proofs.U64FromKwh.from.Reads as u64-from
use Rattle.units.proofs.LiFromU32.from.Reads as li-from
use Rattle.units.proofs.KwhAdd.add.Reads as kwh-add
use Rattle.units.proofs.KwhAddAssign.add_assign.Reads as kwh-add-assign
use Rattle.units.proofs.KwhSub.sub.Reads as kwh-sub
use Rattle.units.proofs.LiAdd.add.Reads as li-add
use Rattle.units.proofs.FenAdd.add.Reads as fen-add
use Rattle.units.proofs.FenAddAssign.add_assign.Reads as fen-add-assign
use Rattle.units.proofs.FenSub.sub.Reads as fen-sub
use Rattle.units.proofs.Kwh.from_wide.Reads as from-wide
use Rattle.units.proofs.Kwh.smaller.Reads as smaller
use Rattle.units.proofs.Kwh.larger.Reads as larger
use Rattle.units.proofs.Kwh.above.Reads as above
use Rattle.units.proofs.Kwh.when.Reads as when
use Rattle.units.proofs.Kwh.or.Reads as or
use Rattle.units.proofs.Kwh.priced.Reads as priced
use Rattle.units.proofs.Kwh.thermal_cap.Reads as thermal-cap
use Rattle.units.proofs.Li.column.Reads as li-column
use Rattle.units.proofs.Li.to_fen.Reads as to-fen
use Rattle.units.proofs.Fen.smaller.Reads as fen-smaller

pub load-unique : OneResult load.Learnt
load-unique κs a x y e f p q = ap (λ (m : ℕ). record { 0 = m }) (p ∙ sym q)

pub most-unique : OneResult most.Learnt
most-unique κs a x y e f p q = ap (λ (m : ℕ). record { 0 = m }) (p ∙ sym q)

pub above-unique : OneResult above.Learnt
above-unique κs a x y e f p q = ap (λ (m : ℕ). record { 0 = m }) (p ∙ sym q)

pub when-unique : OneResult when.Learnt
when-unique κs a x y e f p q = ap (λ (m : ℕ). record { 0 = m }) (p ∙ sym q)

pub or-unique : OneResult or.Learnt
or-unique κs a x y e f p q = ap (λ (m : ℕ). record { 0 = m }) (p ∙ sym q)

pub priced-unique : OneResult priced.Learnt
priced-unique κs a x y e f p q = ap (λ (m : ℕ). record { 0 = m }) (p ∙ sym q)

pub thermal-cap-unique : OneResult thermal-cap.Learnt
thermal-cap-unique κs a x y e f p q = ap (λ (m : ℕ). record { 0 = m }) (p ∙ sym q)

pub to-fen-unique : OneResult to-fen.Learnt
to-fen-unique κs a x y e f p q = ap (λ (m : ℕ). record { 0 = m }) (p ∙ sym q)

pub kwh-from-column-unique : OneResult kwh-from.Learnt
kwh-from-column-unique κs a x y e f p q = ap (λ (m : ℕ). record { 0 = m }) (p ∙ sym q)

pub kwh-column-unique : OneResult u32-from.Learnt
kwh-column-unique κs a x y e f p q = p ∙ sym q

pub wide-unique : OneResult u64-from.Learnt
wide-unique κs a x y e f p q = p ∙ sym q

pub li-from-column-unique : OneResult li-from.Learnt
li-from-column-unique κs a x y e f p q = ap (λ (m : ℕ). record { 0 = m }) (p ∙ sym q)

pub kwh-plus-unique : OneResult kwh-add.Learnt
kwh-plus-unique κs a x y e f p q = ap (λ (m : ℕ). record { 0 = m }) (p ∙ sym q)

pub less-unique : OneResult kwh-sub.Learnt
less-unique κs a x y e f p q = ap (λ (m : ℕ). record { 0 = m }) (p ∙ sym q)

pub li-plus-unique : OneResult li-add.Learnt
li-plus-unique κs a x y e f p q = ap (λ (m : ℕ). record { 0 = m }) (p ∙ sym q)

pub fen-plus-unique : OneResult fen-add.Learnt
fen-plus-unique κs a x y e f p q = ap (λ (m : ℕ). record { 0 = m }) (p ∙ sym q)

pub fen-less-unique : OneResult fen-sub.Learnt
fen-less-unique κs a x y e f p q = ap (λ (m : ℕ). record { 0 = m }) (p ∙ sym q)

pub kwh-add-assign-unique : LeavesOne kwh-add-assign.Learnt (λ κs x y e f. e.0.now ≡ f.0.now)
kwh-add-assign-unique κs a x y e f p q = ap (λ (m : ℕ). record { 0 = m }) (p ∙ sym q)

pub fen-add-assign-unique : LeavesOne fen-add-assign.Learnt (λ κs x y e f. e.0.now ≡ f.0.now)
fen-add-assign-unique κs a x y e f p q = ap (λ (m : ℕ). record { 0 = m }) (p ∙ sym q)

pub smaller-unique : OneResult smaller.Learnt
smaller-unique κs a x y e f p q = ap (λ (m : ℕ). record { 0 = m }) (p ∙ sym q)

pub larger-unique : OneResult larger.Learnt
larger-unique κs a x y e f p q = ap (λ (m : ℕ). record { 0 = m }) (p ∙ sym q)

pub fen-smaller-unique : OneResult fen-smaller.Learnt
fen-smaller-unique κs a x y e f p q = ap (λ (m : ℕ). record { 0 = m }) (p ∙ sym q)

pub li-column-unique : OneResult li-column.Learnt
li-column-unique κs a x y e f p q = p ∙ sym q

pub from-wide-unique : OneResult from-wide.Learnt
from-wide-unique κs a x y e f p q = ap (λ (m : ℕ). record { 0 = m }) (p ∙ sym q)
