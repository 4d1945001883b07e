-- `settle::rows::find_sources` meets its contract: a blank list is right without a correction.
use Rattle.settle.proofs.Reading.{own-sources, found-sources, blank-long}
use borrow.Author.Rules.{rules}
use Rattle.settle.proofs.rows.find_sources.Goals as goal

pub returns-then-correction-eq0 : goal.returns-then-correction-eq0
returns-then-correction-eq0 c = search own-sources

pub sources-requires : goal.sources-requires
sources-requires c = record { correction_value = search rules; out_len = search blank-long }

pub returns : goal.returns
returns c = search found-sources
