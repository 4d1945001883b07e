-- `files::forms::known` meets its contract.
use Rattle.files.specs.Form.{known}
use Rattle.files.proofs.forms.known.Goals as goal

pub returns : goal.returns
unfolding known
returns c = cc
