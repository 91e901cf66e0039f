-- A number that must be there.
use Rattle.document.specs.Schema.{integer}
use Rattle.read_fields.proofs.Refusals.{raised}
use Rattle.read_fields.proofs.Values.{count_missing, count_needed}
use Rattle.read_fields.proofs.field.integer_field.Goals as goal

pub returns-in_err-at-clause-counts_needed : goal.returns-in_err-at-clause-counts_needed
returns-in_err-at-clause-counts_needed c =
    rw (raised c.from_residual.result c.from_residual.ensures.1) (count_missing c.in_err-at.ensures (integer c.args.least c.args.most) c.args.used)

pub returns-clause-counts_needed : goal.returns-clause-counts_needed
returns-clause-counts_needed c h =
    count_needed c.args.brace c.in_ok-at.ensures (integer c.args.least c.args.most) c.args.used c.integer_value.result c.integer_value.ensures.counts_at
