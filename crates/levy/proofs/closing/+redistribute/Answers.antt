-- `levy::redistribute` meets its contract: each round leaves fewer open, and the rest is the same function of what it left.
use Rattle.std.proofs.Common.{◌≡◌, rules, arith}
use Rattle.levy.proofs.Again.{round-asked, caps-in, weights-in, left_less, ready-again, stopped, went_on}
use Rattle.levy.proofs.closing.+redistribute.Goals as goal

pub close_round-shut-requires : goal.close_round-shut-requires
close_round-shut-requires t c = search round-asked

pub returns-then-shut-eq0 : goal.returns-then-shut-eq0
returns-then-shut-eq0 t c = search stopped

pub sub-balance-requires : goal.sub-balance-requires
sub-balance-requires t c = search (caps-in, rules)

pub overflow_sub-balance : goal.overflow_sub-balance
overflow_sub-balance t c = search (weights-in, rules)

-- the test left says that somebody closed, here and below
pub redistribute-requires : goal.redistribute-requires
redistribute-requires t c =
    let some : c.close_round-shut.result.weights ≡ 0 → ⊥ = λ e. omega (arith, e, c.if-shut-eq0.false) in
    (search left_less, search ready-again)

pub returns : goal.returns
returns t c =
    let some : c.close_round-shut.result.weights ≡ 0 → ⊥ = λ e. omega (arith, e, c.if-shut-eq0.false) in
    search went_on
