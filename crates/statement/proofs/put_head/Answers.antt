-- `statement::put_head` meets its contract.
use Rattle.statement.proofs.Topped.{parts-put}
use Rattle.records.specs.Buffer.{put}
use Rattle.statement.proofs.put_head.Goals as goal

pub returns : goal.returns
unfolding put
returns c = search parts-put
