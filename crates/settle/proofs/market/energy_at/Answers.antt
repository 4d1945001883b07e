-- `settle::market::energy_at` meets its contract: a cell of four bytes fits 32 bits.
use Rattle.settle.proofs.Paying.{four}
use Rattle.settle.proofs.market.energy_at.Goals as goal

pub overflow_cast-cell : goal.overflow_cast-cell
overflow_cast-cell c = record { fits = search four }
