-- `telling::tell_number` meets its contract: the digits are at most twenty, and the position after them and the one byte more is a number of
-- 64 bits.
use Rattle.std.proofs.Common.{arith}
use Rattle.telling.proofs.Spelled.{few-digits, number-placed}
use Rattle.telling.proofs.tell_number.Goals as goal

pub put_bytes-requires : goal.put_bytes-requires
put_bytes-requires c =
    omega (arith, few-digits _ _ c.ranges.x.fits c.decimal-k.ensures.len, c.decimal-k.ensures.in_bounds.1, c.requires)

pub overflow_add-text : goal.overflow_add-text
overflow_add-text c = record { fits = omega (arith, few-digits _ _ c.ranges.x.fits c.decimal-k.ensures.len, c.requires, c.well_formed) }

pub bounds-text-at : goal.bounds-text-at
bounds-text-at c = omega (arith, few-digits _ _ c.ranges.x.fits c.decimal-k.ensures.len, c.requires, c.put_bytes.auto.out)

pub overflow_add-result : goal.overflow_add-result
overflow_add-result c = record { fits = omega (arith, few-digits _ _ c.ranges.x.fits c.decimal-k.ensures.len, c.requires, c.well_formed) }

pub overflow_add-result-2 : goal.overflow_add-result-2
overflow_add-result-2 c = record { fits = omega (arith, few-digits _ _ c.ranges.x.fits c.decimal-k.ensures.len, c.requires, c.well_formed) }

pub returns : goal.returns
returns c =
    let given = c.args in
    let spelt = c.decimal-k in
    rw c.put_bytes.ensures
    (number-placed given.text.now spelt.new.out given.at spelt.result given.x given.end
    c.requires (few-digits _ _ c.ranges.x.fits spelt.ensures.len) spelt.ensures.in_bounds.1 spelt.ensures.len spelt.ensures.digits)
