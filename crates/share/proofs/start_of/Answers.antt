-- `share::start_of` meets its contract: std's count is that of the places passed.
use Rattle.std.proofs.Common.{rules}
use Rattle.share.proofs.Serving.{start_is_in}
use Rattle.share.proofs.start_of.Goals as goal

pub returns : goal.returns
returns c = search (rules, start_is_in)
