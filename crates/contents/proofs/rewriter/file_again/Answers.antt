-- `contents::rewriter::file_again` meets its contract: the rows, then the head in front of them.
use Rattle.files.proofs.Walked.{start-told}
use Rattle.contents.proofs.Again.{again-few, again-long, again-head, again-whole, again-front, again-made}
use borrow.Author.Rules.{rules}
use Rattle.contents.proofs.rewriter.file_again.Goals as goal

pub form_of-form-requires : goal.form_of-form-requires
form_of-form-requires c = (search again-head, search again-whole)

pub rows_again-requires : goal.rows_again-requires
rows_again-requires c = record {
  start_value = search start-told;
  n_bound = (search again-few, search again-long, search rules);
}

pub head_at-requires : goal.head_at-requires
head_at-requires c = search again-head

pub put_head-requires : goal.put_head-requires
put_head-requires c = search again-front

pub returns : goal.returns
returns c = search again-made
