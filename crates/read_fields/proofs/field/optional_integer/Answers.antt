-- A number that may be absent.
use mathlib.Core.Path.{sym}
use Rattle.document.specs.Schema.{integer}
use Rattle.read_fields.proofs.Values.{count_absent, count_given}
use Rattle.read_fields.proofs.field.optional_integer.Goals as goal

pub returns-in-Some-clause-counts_optional : goal.returns-in-Some-clause-counts_optional
returns-in-Some-clause-counts_optional c =
    count_given (sym c.in-Some.ensures) (integer c.args.least c.args.most) c.args.absent c.args.used c.integer_value.result c.integer_value.ensures.counts_at

pub returns-in-None-clause-counts_optional : goal.returns-in-None-clause-counts_optional
returns-in-None-clause-counts_optional c =
    count_absent (sym c.in-None.ensures) (integer c.args.least c.args.most) c.args.absent c.args.used
