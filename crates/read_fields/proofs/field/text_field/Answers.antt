-- A text that must be there.
use Rattle.read_fields.proofs.Texts.{text_missing, text_refused, text_empty, text_needed}
use Rattle.read_fields.proofs.Refusals.{raised}
use Rattle.read_fields.proofs.field.text_field.Goals as goal

pub returns-in_err-at-clause-reads_text : goal.returns-in_err-at-clause-reads_text
returns-in_err-at-clause-reads_text c =
    rw (raised c.from_residual.result c.from_residual.ensures.1) (text_missing c.in_err-at.ensures c.args.terms c.args.used)

pub returns-in_err-quote-clause-reads_text : goal.returns-in_err-quote-clause-reads_text
returns-in_err-quote-clause-reads_text c h =
    rw (raised c.from_residual-in_err-quote.result c.from_residual-in_err-quote.ensures.1) (text_refused c.in_ok-at.ensures c.in_err-quote.ensures c.args.terms c.args.used c.args.brace)

pub returns-then-len-eq0-clause-reads_text : goal.returns-then-len-eq0-clause-reads_text
returns-then-len-eq0-clause-reads_text c h =
    text_empty c.in_ok-at.ensures c.in_ok-quote.ensures c.decoded_length-len.result c.decoded_length-len.ensures c.args.terms c.args.used c.args.brace h c.if-len-eq0.true

pub returns-clause-reads_text : goal.returns-clause-reads_text
returns-clause-reads_text c h =
    text_needed c.in_ok-at.ensures c.in_ok-quote.ensures c.decoded_length-len.result c.decoded_length-len.ensures c.args.terms c.args.used c.if-len-eq0.false c.args.brace c.within_room.result c.within_room.ensures
