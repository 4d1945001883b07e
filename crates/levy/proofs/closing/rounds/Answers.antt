-- `levy::rounds` meets its contract: the walk starts where the definition starts, with nobody closed, and visits are told by where it ends.
use Rattle.levy.proofs.Again.{rounds-begin, visits-asked, rounds-end}
use Rattle.levy.proofs.closing.rounds.Goals as goal

pub redistribute-requires : goal.redistribute-requires
redistribute-requires c = search rounds-begin

pub count_visits-visits-requires : goal.count_visits-visits-requires
count_visits-visits-requires c = visits-asked _ _ _ _ _ c.requires _ c.total_of.ensures _ _ _ _ c.redistribute.ensures c.redistribute.auto.marks _ c.from.ensures

pub returns : goal.returns
returns c =
    rounds-end _ _ _ _ _ c.requires _ c.total_of.ensures _ _ _ _ c.redistribute.ensures c.redistribute.auto.marks _ c.from.ensures _
    c.count_visits-visits.ensures
