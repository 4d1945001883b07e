-- `units::Kwh::priced` meets its contract: 32 bits by 32 bits fit 64.
use Prim.Native.Nat.{◌^◌}
use Rattle.columns.proofs.Product.{product}
use borrow.Author.Rules.{rules}
use Rattle.units.proofs.Kwh.priced.Goals as goal

pub overflow_mul-result : goal.overflow_mul-result
overflow_mul-result c = record { fits = product 4294967295 4294967295 (2 ^ 64) (search rules) (search rules) tt }
