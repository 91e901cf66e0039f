-- A text that may be absent.
use mathlib.Core.Path.{sym}
use Rattle.read_fields.proofs.Texts.{text_not_given}
use Rattle.read_fields.proofs.Refusals.{raised}
use Rattle.read_fields.proofs.field.optional_text.Goals as goal

pub returns-in_err-quote-clause-reads_optional_text : goal.returns-in_err-quote-clause-reads_optional_text
returns-in_err-quote-clause-reads_optional_text c =
    rw (raised c.from_residual.result c.from_residual.ensures.1) (text_not_given (sym c.in-Some.ensures) c.in_err-quote.ensures c.args.terms c.args.used)
