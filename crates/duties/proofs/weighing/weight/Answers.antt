-- `duties::weight` meets its contract: the energy that counts, thermal energy by its bands.
use Rattle.duties.proofs.Parts.{counted-le, weight-of}
use borrow.Author.Rules.{rules}
use Rattle.duties.proofs.weighing.weight.Goals as goal

pub thermal_weight-requires : goal.thermal_weight-requires
thermal_weight-requires c = (search counted-le, search rules)

pub returns : goal.returns
returns c = search weight-of
