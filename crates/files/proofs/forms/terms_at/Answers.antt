-- `files::forms::terms_at` meets its contract.
use mathlib.Core.Path.{ap}
use Rattle.records.specs.Record.{record_at}
use Rattle.files.specs.Form.{terms_from, terms_at}
use Rattle.files.proofs.forms.terms_at.Goals as goal

pub returns : goal.returns
unfolding terms_at record_at
returns c = ap terms_from c.record_of.ensures.0
