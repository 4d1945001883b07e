-- `share::hand_out` meets its contract: where nobody at the line is served, those above it are all; else all that were marked in turn.
use Rattle.share.proofs.Lifting.{liftable, lifted-all, marks-liftable, marks-all}
use Rattle.share.proofs.hand_out.Goals as goal

pub serve_above-requires : goal.serve_above-requires
serve_above-requires c = search liftable

pub returns-then-line-eq0 : goal.returns-then-line-eq0
returns-then-line-eq0 c = search lifted-all

pub serve_above-requires-2 : goal.serve_above-requires-2
serve_above-requires-2 c = search marks-liftable

pub returns : goal.returns
returns c = search marks-all
