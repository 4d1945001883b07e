-- Two results that one contract allows are equal, for each public function: theorems of the contract itself (`Learnt`).
use Prim.Native.Nat.{ℕ}
use mathlib.Core.Path.{ap, sym, ◌∙◌}
use Rattle.columns.proofs.Unique.{OneResult}
use Rattle.duties.proofs.usual_duty.Reads as usual-duty
use Rattle.duties.proofs.average_duty.Reads as average-duty
use Rattle.duties.proofs.average.average_at.Reads as average-at
use Rattle.duties.proofs.average.joined.Reads as joined
use Rattle.duties.proofs.average.stirs.Reads as stirs
use Rattle.duties.proofs.weighing.pays.Reads as pays
use Rattle.duties.proofs.bands.width1.Reads as width1
use Rattle.duties.proofs.bands.width2.Reads as width2
use Rattle.duties.proofs.delivery.energy_in1.Reads as energy-in1
use Rattle.duties.proofs.delivery.energy_in2.Reads as energy-in2
use Rattle.duties.proofs.delivery.energy1.Reads as energy1
use Rattle.duties.proofs.delivery.energy2.Reads as energy2
use Rattle.duties.proofs.credit.credit1.Reads as credit1
use Rattle.duties.proofs.credit.credit2.Reads as credit2
use Rattle.duties.proofs.baseline.Reads as baseline
use Rattle.duties.proofs.weighing.thermal_weight.Reads as thermal-weight
use Rattle.duties.proofs.weighing.weight.Reads as weight
use Rattle.duties.proofs.weighing.cap.Reads as cap
use Rattle.duties.proofs.weighing.U64FromCorrected.from.Reads as wide

pub usual-duty-unique : OneResult usual-duty.Learnt
usual-duty-unique κs a x y e f p q = p ∙ sym q

pub average-duty-unique : OneResult average-duty.Learnt
average-duty-unique κs a x y e f p q = p ∙ sym q

pub stirs-unique : OneResult stirs.Learnt
stirs-unique κs a x y e f p q = p ∙ sym q

pub joined-unique : OneResult joined.Learnt
joined-unique κs a x y e f p q = p ∙ sym q

pub average-at-unique : OneResult average-at.Learnt
average-at-unique κs a x y e f p q = ap (λ (m : ℕ). record { 0 = m }) (p ∙ sym q)

pub pays-unique : OneResult pays.Learnt
pays-unique κs a x y e f p q = p ∙ sym q

pub width1-unique : OneResult width1.Learnt
width1-unique κs a x y e f p q = ap (λ (m : ℕ). record { 0 = m }) (p ∙ sym q)

pub width2-unique : OneResult width2.Learnt
width2-unique κs a x y e f p q = ap (λ (m : ℕ). record { 0 = m }) (p ∙ sym q)

pub energy-in1-unique : OneResult energy-in1.Learnt
energy-in1-unique κs a x y e f p q = ap (λ (m : ℕ). record { 0 = m }) (p ∙ sym q)

pub energy-in2-unique : OneResult energy-in2.Learnt
energy-in2-unique κs a x y e f p q = ap (λ (m : ℕ). record { 0 = m }) (p ∙ sym q)

pub energy1-unique : OneResult energy1.Learnt
energy1-unique κs a x y e f p q = ap (λ (m : ℕ). record { 0 = m }) (p ∙ sym q)

pub energy2-unique : OneResult energy2.Learnt
energy2-unique κs a x y e f p q = ap (λ (m : ℕ). record { 0 = m }) (p ∙ sym q)

pub credit1-unique : OneResult credit1.Learnt
credit1-unique κs a x y e f p q = ap (λ (m : ℕ). record { 0 = m }) (p ∙ sym q)

pub credit2-unique : OneResult credit2.Learnt
credit2-unique κs a x y e f p q = ap (λ (m : ℕ). record { 0 = m }) (p ∙ sym q)

pub baseline-unique : OneResult baseline.Learnt
baseline-unique κs a x y e f p q = ap (λ (m : ℕ). record { 0 = m }) (p ∙ sym q)

pub thermal-weight-unique : OneResult thermal-weight.Learnt
thermal-weight-unique κs a x y e f p q = ap (λ (m : ℕ). record { 0 = m }) (p ∙ sym q)

pub weight-unique : OneResult weight.Learnt
weight-unique κs a x y e f p q = ap (λ (m : ℕ). record { 0 = m }) (p ∙ sym q)

pub cap-unique : OneResult cap.Learnt
cap-unique κs a x y e f p q = ap (λ (m : ℕ). record { 0 = m }) (p ∙ sym q)

pub wide-unique : OneResult wide.Learnt
wide-unique κs a x y e f p q = p ∙ sym q
