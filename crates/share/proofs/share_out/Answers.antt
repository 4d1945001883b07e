-- `share::share_out` meets its contract: where the quotas leave nothing they are the shares.
use Rattle.share.proofs.Handing.{none_left, handable, handed}
use Rattle.share.proofs.share_out.Goals as goal

pub returns-then-left-eq0 : goal.returns-then-left-eq0
returns-then-left-eq0 c = search none_left

pub hand_out-requires : goal.hand_out-requires
hand_out-requires c = search handable

pub returns : goal.returns
returns c = search handed
