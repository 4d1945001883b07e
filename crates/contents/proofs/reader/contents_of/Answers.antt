-- `contents::reader::contents_of` meets its contract: the rows passed are the file's, zero rows follow.
use Rattle.contents.proofs.Walk.{fill_start, fill-next, fill-ends}
use Rattle.contents.proofs.Answered.{read_head, read_whole}
use Rattle.contents.proofs.reader.contents_of.Goals as goal

pub form_of-form-requires : goal.form_of-form-requires
form_of-form-requires c = (search read_head, search read_whole)

pub head_at-head-requires : goal.head_at-head-requires
head_at-head-requires c = search read_head

pub loop-i-init : goal.loop-i-init
loop-i-init c = search fill_start

pub loop-i-preserved : goal.loop-i-preserved
loop-i-preserved c = search fill-next

pub returns : goal.returns
returns c = search fill-ends
