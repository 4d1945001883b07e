-- `levy::list_payers` meets its contract: the test of a weight is that of its position.
use mathlib.Core.Path.{◌≡◌, sym, ap, ◌∙◌}
use lib.Dec.{ltb}
use Rattle.std.proofs.Common.{rules}
use Rattle.std.proofs.lemmas.Option.{get_or_from_slice_get}
use Rattle.columns.specs.Table.{at}
use Rattle.levy.specs.Rounds.{is_payer}
use Rattle.levy.proofs.listing.list_payers.Goals as goal

pub returns : goal.returns
returns c =
    c.list_where.ensures.listed (is_payer c.args.weights.now)
    (λ i x b e h.
    let is : at c.args.weights.now i ≡ x = get_or_from_slice_get c.args.weights.now i x 0 e in
    let told : b ≡ ltb 0 x = search rules in
    told ∙ ap (ltb 0) (sym is))
