-- `duties::average_at` meets its contract: the average of low sums fits, as half load does.
use Prim.Native.Nat.{◌^◌}
use Rattle.columns.proofs.Product.{product}
use Rattle.duties.proofs.Averages.{half-fits}
use borrow.Author.Rules.{rules}
use Rattle.duties.proofs.average.average_at.Goals as goal

pub overflow_mul-from : goal.overflow_mul-from
overflow_mul-from c = record { fits = rw (c.from.ensures, c.from-2.ensures) (product 65535 4294967295 (2 ^ 64) (search rules) (search rules) tt) }

pub from_wide-requires : goal.from_wide-requires
from_wide-requires c = rw (c.from.ensures, c.from-2.ensures, c.from-3.ensures) (half-fits _ _ _ c.requires (search rules) (search rules))

pub returns : goal.returns
returns c = cc
