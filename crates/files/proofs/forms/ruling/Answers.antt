-- `files::forms::ruling` meets its contract.
use Rattle.files.proofs.forms.ruling.Goals as goal

pub returns : goal.returns
returns c = rw c.if-form.false
