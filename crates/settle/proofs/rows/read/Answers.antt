-- `settle::rows::read` meets its contract.
use Rattle.settle.proofs.Answered.{head-there}
use Rattle.settle.proofs.Reading.{reads_of, low-found, flag-told, read_told}
use mathlib.Core.Path.{refl, ◌∙◌}
use borrow.Author.Rules.{rules}
use Rattle.settle.proofs.rows.read.Goals as goal

pub head_at-head-requires : goal.head_at-head-requires
head_at-head-requires c = search head-there

pub invariant_of-pair : goal.invariant_of-pair
invariant_of-pair c = record { accepted = search rules; sourced = search rules; reads = search reads_of }

pub read_by-requires : goal.read_by-requires
read_by-requires c = (search low-found, search rules)

pub returns : goal.returns
returns c =
    let p = c.requires in
    record {
      value = c.from.ensures ∙ flag-told _ _ _ p.correction_value.0 _ c.head_at-head.ensures _ c.average-ruling.ensures;
      sheet_after = read_told _ _ _ p.correction_value.0 _ c.head_at-head.ensures _ c.average-ruling.ensures _ _ _ refl c.read_by.ensures;
    }
