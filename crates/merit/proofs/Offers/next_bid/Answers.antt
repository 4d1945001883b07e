-- `merit::Offers::next_bid` meets its contract: the lowest bid above the last, or past every bid.
use Rattle.std.proofs.Common.{◌∙◌}
use Rattle.merit.proofs.Next.{next-none, next-some}
use Rattle.merit.proofs.Offers.next_bid.Goals as goal

pub returns-in-Some : goal.returns-in-Some
returns-in-Some c =
    let lowest = c.in-Some.ensures in c.from.ensures ∙ next-some _ _ _ c.args.self.fit.low lowest.0 lowest.1

pub returns-in-None : goal.returns-in-None
returns-in-None c = next-none _ _ c.in-None.ensures
