-- `duties::duty_of` meets its contract: every part has its own.
use Rattle.duties.proofs.Parts.{duty-of}
use Rattle.duties.proofs.duty_of.Goals as goal

pub returns : goal.returns
returns c = search duty-of
