-- `files::counts::part_at` meets its contract.
use Rattle.files.proofs.Sourced.{part-is}
use Rattle.files.proofs.counts.part_at.Goals as goal

pub returns : goal.returns
returns c = part-is c.args.s.now c.args.at c.args.size
