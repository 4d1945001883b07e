-- `units::load` meets its contract: 65,535 MW at 255 percent still fit 32 bits.
use Prim.Native.Nat.{◌^◌}
use Rattle.columns.proofs.Product.{product}
use borrow.Author.Rules.{rules}
use Rattle.units.proofs.load.Goals as goal

pub overflow_mul-result-2 : goal.overflow_mul-result-2
overflow_mul-result-2 c = record { fits = product 16383750 255 (2 ^ 32) (search rules) (search rules) tt }
