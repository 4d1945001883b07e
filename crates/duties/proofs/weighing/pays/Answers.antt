-- `duties::pays` meets its contract: the tests are the definition's own, by kind.
use Rattle.std.proofs.Common.{◌≡◌, leb, arith}
use Rattle.std.proofs.lemmas.Grind.{common_steps}
use Rattle.duties.proofs.Parts.{pays-is}
use Rattle.duties.proofs.weighing.pays.Goals as goal

pub returns : goal.returns
returns c = let ran : c.le.result ≡ leb c.args.base.0 c.args.row.metered.0 = grind (arith, common_steps) in rw ran (search pays-is)
