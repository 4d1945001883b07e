-- `contents::reader::zero_contents` meets its contract.
use Rattle.contents.specs.Content.{zero_contents}
use Rattle.contents.proofs.reader.zero_contents.Goals as goal

pub returns : goal.returns
unfolding zero_contents
returns c = rw (c.zero_form-form.ensures, c.zero_rows-rows.ensures)
