-- `share::list_weights` meets its contract: the test of a weight is that of its position.
use mathlib.Core.Path.{◌≡◌, sym, ap, ◌∙◌}
use lib.Dec.{ltb}
use Rattle.std.proofs.Common.{rules}
use Rattle.std.proofs.lemmas.Option.{get_or_from_slice_get}
use Rattle.columns.specs.Table.{at}
use Rattle.share.specs.Steps.{weighs}
use Rattle.share.proofs.Handing.{front-listed}
use Rattle.share.proofs.list_weights.Goals as goal

pub returns : goal.returns
unfolding weighs
returns c =
    front-listed c.args.weights.now c.list_where-m.new.list c.list_where-m.result c.list_where-m.ensures.few c.requires.0
    (c.list_where-m.ensures.listed (weighs c.args.weights.now)
    (λ i x b e h.
    let is : at c.args.weights.now i ≡ x = get_or_from_slice_get c.args.weights.now i x 0 e in
    let told : b ≡ ltb 0 x = search rules in
    told ∙ ap (ltb 0) (sym is)))
