-- `files::counts::counting_part` meets its contract: row i stands where its source says.
use Prim.Native.Nat.{◌+◌, ◌≤◌, ◌<◌}
use Rattle.files.specs.Layout.{head_size}
use Rattle.files.specs.Form.{terms_size}
use Rattle.files.proofs.Sourced.{own-small, own-near, own_in, their-in, own-source, their-source}
use borrow.Author.Rules.{rules}
use Rattle.files.proofs.counts.counting_part.Goals as goal

pub overflow_mul-i : goal.overflow_mul-i
overflow_mul-i c = let l : c.args.i < 256 = search own-small in search rules

pub overflow_add-start : goal.overflow_add-start
overflow_add-start c =
    let a = c.args in
    let l : a.i < 256 = search own-small in
    let m : a.start ≤ head_size + terms_size = search own-near in
    search rules

pub part_at-requires : goal.part_at-requires
part_at-requires c = search own_in

pub returns-then-source-eq0 : goal.returns-then-source-eq0
returns-then-source-eq0 c = search own-source

pub part_at-requires-2 : goal.part_at-requires-2
part_at-requires-2 c = rw c.from-j.ensures (search their-in)

pub returns : goal.returns
returns c = let part = rw c.from-j.ensures at c.part_at-2.ensures in search their-source
