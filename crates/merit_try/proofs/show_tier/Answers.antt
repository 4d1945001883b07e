-- `merit_try::show_tier` meets its contract: its columns are those of two rows.
use Rattle.merit_try.proofs.Two.{two_ready}
use Rattle.merit_try.proofs.show_tier.Goals as goal

pub call_tier-beyond-requires : goal.call_tier-beyond-requires
call_tier-beyond-requires c = search two_ready
