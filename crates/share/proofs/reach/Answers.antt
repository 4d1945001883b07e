-- `share::reach` meets its contract: std's sum of the tests is their count.
use Rattle.std.proofs.Common.{rules}
use Rattle.share.proofs.Serving.{reach_is}
use Rattle.share.proofs.reach.Goals as goal

pub returns : goal.returns
returns c = search (rules, reach_is)
