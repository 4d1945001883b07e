-- `records::put_record` meets its contract: the mark by two stores, the fields behind it.
use native.Mathlib.Omega.{arith}
use lib.ListN.{set, length-set}
use Prim.Native.Nat.{◌+◌}
use Rattle.records.specs.Record.{letter_p}
use Rattle.records.proofs.Record.{record-put}
use borrow.Author.Rules.{rules}
use Rattle.records.proofs.put_record.Goals as goal

pub bounds-out-at-2 : goal.bounds-out-at-2
bounds-out-at-2 c = simp length-set (omega arith)

pub put_fields-requires : goal.put_fields-requires
put_fields-requires c = (search rules, simp (length-set, length-set) (omega arith))

pub shape_of-out : goal.shape_of-out
shape_of-out c =
    let o = c.args in
    omega (arith, length-set o.out.now o.at letter_p, length-set (set o.out.now o.at letter_p) (o.at + 1) o.letter)

pub returns : goal.returns
returns c = search record-put
