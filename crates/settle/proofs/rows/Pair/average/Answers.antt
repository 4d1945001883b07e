-- `settle::rows::Pair::average` meets its contract: no row passed keeps the average from ruling, and their sums are made.
use Rattle.std.proofs.Common.{◌≡◌, ◌<◌, arith}
use Rattle.std.proofs.lemmas.Grind.{common_steps}
use Rattle.duties.proofs.Averages.{needless}
use Rattle.settle.proofs.Reading.{source-room, source_fits, scanning-none, scanning-more, scanning-stop, scanning-all, energy-fits, capacity-fits}
use Rattle.settle.proofs.rows.Pair.average.Goals as goal

pub returns-then-eq : goal.returns-then-eq
returns-then-eq c = let none : c.args.need.0 ≡ 0 = grind (arith, common_steps) in search needless

pub loop-i-init : goal.loop-i-init
loop-i-init c = search scanning-none

pub offset_bounds-self-i : goal.offset_bounds-self-i
offset_bounds-self-i c = search source_fits

pub bounds-self-i : goal.bounds-self-i
bounds-self-i c = search source-room

pub returns-then-stirs : goal.returns-then-stirs
returns-then-stirs c = search scanning-stop

pub joined-sums-requires : goal.joined-sums-requires
joined-sums-requires c = (search energy-fits, search capacity-fits)

pub loop-i-preserved : goal.loop-i-preserved
loop-i-preserved c = search scanning-more

pub returns : goal.returns
returns c =
    let some : 0 < c.args.need.0 = grind (arith, common_steps) in
    let needed : c.args.need.0 ≡ 0 → ⊥ = λ z. omega arith in
    search scanning-all
