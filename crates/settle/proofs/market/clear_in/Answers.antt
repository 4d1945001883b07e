-- `settle::market::clear_in` meets its contract: the columns read are the fields'.
use Rattle.settle.proofs.Tiers.{widths-asked, bids-asked, lent_level, tier-ready, columns-level, energies-asked, tier-cleared}
use Rattle.settle.proofs.market.clear_in.Goals as goal

pub get_pair-requires : goal.get_pair-requires
get_pair-requires c = search (widths-asked, bids-asked, lent_level)

pub call_tier-left-requires : goal.call_tier-left-requires
call_tier-left-requires c = search tier-ready

pub price_in-price-requires : goal.price_in-price-requires
price_in-price-requires c =
    let p = c.requires in
    let is = c.get_pair.ensures in
    let made = c.call_tier-left.ensures in
    (columns-level _ _ _ _ _ _ p.0 p.1 _ _ is.first_after is.second_after _ _ _ made, energies-asked _ _ _ _ _ _ p.0 p.1 _ _ is.first_after is.second_after _ _ _ made)

pub returns : goal.returns
returns c = search tier-cleared
