-- `settle::rows::Pair::read_by` meets its contract: without an average that rules the duties are the usual ones.
use Rattle.files.proofs.Laws.{no_source}
use Rattle.settle.proofs.Reading.{source-room, source_fits, source-at-row, terms-low, usual-duty}
use borrow.Author.Rules.{rules}
use Rattle.settle.proofs.rows.Pair.read_by.Goals as goal

pub read-requires-clause-sources : goal.read-requires-clause-sources
read-requires-clause-sources c = record { may = λ i l. search (rules, source_fits, source-room); is = λ i source l made. search (rules, source-at-row) }

pub read-requires-then-self-eq0-clause-sources : goal.read-requires-then-self-eq0-clause-sources
read-requires-then-self-eq0-clause-sources c = record { may = λ i l. search rules; is = λ i source l made. search (rules, no_source) }

pub read-requires-then-self-eq0-clause-duties : goal.read-requires-then-self-eq0-clause-duties
read-requires-then-self-eq0-clause-duties c = record { may = λ r ranged. search (rules, terms-low); is = λ r d ranged made. search (rules, usual-duty) }

pub read-requires-else-self-eq0-clause-sources : goal.read-requires-else-self-eq0-clause-sources
read-requires-else-self-eq0-clause-sources c = record { may = λ i l. search (rules, source_fits, source-room); is = λ i source l made. search (rules, source-at-row) }

pub read-requires-else-self-eq0-clause-duties : goal.read-requires-else-self-eq0-clause-duties
read-requires-else-self-eq0-clause-duties c = record { may = λ r ranged. search (rules, terms-low); is = λ r d ranged made. search (rules, usual-duty) }
