-- `records::put_bytes` meets its contract: so far the first i elements of the source are put.
use native.Mathlib.Omega.{arith}
use lib.ListN.{length-set}
use Rattle.records.proofs.Buffer.{copy-none, copy_more, copy-all}
use borrow.Author.Rules.{rules}
use Rattle.records.proofs.put_bytes.Goals as goal

pub loop-i-init : goal.loop-i-init
loop-i-init c = (search rules, search copy-none)

pub loop-i-preserved : goal.loop-i-preserved
loop-i-preserved c = (simp length-set (omega arith), search copy_more)

pub returns : goal.returns
returns c = search copy-all
