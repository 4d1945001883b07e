-- `contents::writer::put_head` meets its contract: the head's fields by their table, and those of the terms that it states.
use Rattle.contents.proofs.Headed.{stated-room, plain-room, head-stated, head_plain}
use borrow.Author.Rules.{rules}
use Rattle.contents.proofs.writer.put_head.Goals as goal

pub put_record-requires : goal.put_record-requires
put_record-requires c = (search rules, search plain-room)

pub put_fields-requires : goal.put_fields-requires
put_fields-requires c = (search rules, search stated-room)

pub returns-then-form : goal.returns-then-form
returns-then-form c =
    head-stated _ _ c.requires _ _ _ c.head_fields-fields.ensures _ _ c.if-form.true
    c.terms_fields-terms.ensures c.put_record.ensures c.put_fields.ensures

pub put_record-requires-2 : goal.put_record-requires-2
put_record-requires-2 c = (search rules, search plain-room)

pub returns : goal.returns
returns c = search head_plain
