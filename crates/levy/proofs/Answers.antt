-- Two results that one contract allows are equal, for each public function: theorems of the contract itself (`Learnt`).
--     rounds-unique         marks, what is left, visits
--     shortfall-unique
--     cover-unique           what is left of a shortfall and of penalties
--     payments-unique, apportion-unique      the columns
--     counted-unique, list-payers-unique, count-visits-unique      of functions that only this crate calls; of the list its entries below
--                            the count, since those past it are free
use Prim.Native.Nat.{ℕ}
use mathlib.Core.Path.{◌≡◌, ap, sym, ◌∙◌}
use mathlib.Core.List.{[]}
use lib.ListN.{take-append-drop}
use Rattle.columns.specs.Table.{at, Below}
use Rattle.columns.proofs.Listed.{found}
use Rattle.columns.proofs.Unique.{LeavesOne, OneResult}
use Rattle.levy.specs.Rounds.{Standing}
use Rattle.levy.specs.Asked.{standing_of}
use Rattle.levy.proofs.closing.rounds.Reads as rounds-reads
use Rattle.levy.proofs.closing.shortfall.Reads as shortfall-reads
use Rattle.levy.proofs.paying.payments.Reads as payments-reads
use Rattle.levy.proofs.filling.apportion.Reads as apportion-reads
use Rattle.levy.proofs.filling.cover.Reads as cover-reads
use Rattle.levy.proofs.listing.counted.Reads as counted-reads
use Rattle.levy.proofs.listing.list_payers.Reads as list-payers-reads
use Rattle.levy.proofs.visiting.count_visits.Reads as count-visits-reads

pub rounds-unique : LeavesOne rounds-reads.Learnt (λ κs x y e f. (x ≡ y) × (e.1.1.1.1.0.now ≡ f.1.1.1.1.0.now))
rounds-unique κs a x y e f p q =
    let same : standing_of a.1.0 e.1.1.1.1.0.now x ≡ standing_of a.1.0 f.1.1.1.1.0.now y = p.is ∙ sym q.is in (
      (λ i. record {
        money = record { 0 = (same i).money };
        weight = (same i).weight;
        rounds = (same i).rounds;
        visits = (p.visits_are ∙ sym q.visits_are) i;
      }),
      sym (take-append-drop a.1.0 e.1.1.1.1.0.now)
          ∙ rw (ap (λ (st : Standing). st.marks) same, p.past ∙ sym q.past) (take-append-drop a.1.0 f.1.1.1.1.0.now),
    )

pub shortfall-unique : OneResult shortfall-reads.Learnt
shortfall-unique κs a x y e f p q = ap (λ (m : ℕ). record { 0 = m }) (p 0 [] ∙ sym (q 0 []))

pub payments-unique : LeavesOne payments-reads.Learnt (λ κs x y e f. e.1.1.1.1.1.0.now ≡ f.1.1.1.1.1.0.now)
payments-unique κs a x y e f p q = p ∙ sym q

pub cover-unique : OneResult cover-reads.Learnt
cover-unique κs a x y e f p q =
    λ i. record { cut = record { 0 = (p.cut ∙ sym q.cut) i }; returned = record { 0 = (p.returned ∙ sym q.returned) i } }

pub apportion-unique : LeavesOne apportion-reads.Learnt (λ κs x y e f. e.1.1.1.0.now ≡ f.1.1.1.0.now)
apportion-unique κs a x y e f p q = p ∙ sym q

pub counted-unique : OneResult counted-reads.Learnt
counted-unique κs a x y e f p q = p.0 ∙ sym q.0

pub list-payers-unique : LeavesOne list-payers-reads.Learnt
    (λ κs x y e f. (x ≡ y) × Below x (λ j. at e.1.0.now j ≡ at f.1.0.now j))
list-payers-unique κs a x y e f p q = (
  p.many ∙ sym q.many,
  λ j l. let s = found _ _ _ _ j p l in sym (ap (at f.1.0.now) (sym s.place) ∙ q.places _ s.inside s.passes),
)

pub count-visits-unique : OneResult count-visits-reads.Learnt
count-visits-unique κs a x y e f p q = p ∙ sym q
