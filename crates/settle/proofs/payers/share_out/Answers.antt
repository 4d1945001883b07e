-- `settle::payers::share_out` meets its contract: it only lends columns, and where there is nothing to share it leaves all as it is.
use Rattle.std.proofs.Common.{◌≡◌, arith}
use Rattle.std.proofs.lemmas.Grind.{common_steps}
use Rattle.settle.proofs.Levying.{none-shared, front-shareable, share-front, share-there}
use borrow.Author.Rules.{rules}
use Rattle.settle.proofs.payers.share_out.Goals as goal

pub returns-then-eq : goal.returns-then-eq
returns-then-eq c = let none : c.args.what.amount.0 ≡ 0 = grind (arith, common_steps) in search none-shared

pub slice_bounds-share_in-end : goal.slice_bounds-share_in-end
slice_bounds-share_in-end c = search front-shareable

pub slice_bounds-share_in-end-2 : goal.slice_bounds-share_in-end-2
slice_bounds-share_in-end-2 c = search front-shareable

pub share_in-requires : goal.share_in-requires
share_in-requires c = (search share-front, search rules)

pub returns : goal.returns
returns c = search share-there
