-- `units::Kwh::above` meets its contract: nothing wraps, and the quotient is 1 or 0.
use Rattle.units.proofs.Chosen.{excess, excess-32, excess-64}
use Rattle.units.proofs.Kwh.above.Goals as goal

pub overflow_mul-result : goal.overflow_mul-result
overflow_mul-result c = rw (c.from.ensures, c.from-2.ensures) (search excess-64)

pub overflow_cast-result : goal.overflow_cast-result
overflow_cast-result c = rw (c.from.ensures, c.from-2.ensures) (search excess-32)

pub returns : goal.returns
returns c = rw (c.from.ensures, c.from-2.ensures) (search excess)
