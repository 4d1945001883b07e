-- `files::forms::rows_from` meets its contract.
use mathlib.Core.Path.{ap, ◌∙◌}
use Rattle.files.specs.Form.{start_of, rows_from}
use Rattle.files.proofs.forms.rows_from.Goals as goal

pub returns : goal.returns
unfolding rows_from
returns c = (c.start_of.ensures.0 ∙ ap start_of c.states.ensures, c.start_of.ensures.1)
