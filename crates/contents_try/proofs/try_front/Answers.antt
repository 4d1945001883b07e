-- `contents_try::try_front` meets its contract.
use mathlib.Core.Path.{sym}
use lib.Seq.{length-take-le}
use Rattle.contents_try.proofs.try_front.Goals as goal

pub slice_bounds-try_read-end : goal.slice_bounds-try_read-end
slice_bounds-try_read-end c = sym (length-take-le _ _ c.requires)
