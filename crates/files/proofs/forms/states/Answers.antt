-- `files::forms::states` meets its contract.
use Rattle.files.specs.Form.{states}
use Rattle.files.proofs.forms.states.Goals as goal

pub returns : goal.returns
unfolding states
returns c = c.marked.ensures
