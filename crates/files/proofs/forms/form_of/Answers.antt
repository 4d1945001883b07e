-- `files::forms::form_of` meets its contract.
use Rattle.files.proofs.Walked.{stated-long, form-stated, form-plain}
use Rattle.files.proofs.forms.form_of.Goals as goal

pub terms_at-terms-requires : goal.terms_at-terms-requires
terms_at-terms-requires c = search stated-long

pub returns-then-states : goal.returns-then-states
returns-then-states c = search form-stated

pub returns : goal.returns
returns c = search form-plain
