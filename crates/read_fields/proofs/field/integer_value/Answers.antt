-- An integer is read, or what stands there is none.
use Rattle.std.specs.Prelude.{Ok, Err}
use Rattle.document.specs.Schema.{integer}
use Rattle.read_fields.proofs.Held.{whole_within}
use Rattle.read_fields.proofs.Refusals.{raised}
use Rattle.read_fields.proofs.Values.{number_not_counted, integer_counts}
use Rattle.read_fields.proofs.field.integer_value.Goals as goal

pub returns-in_err-at-clause-counts_at : goal.returns-in_err-at-clause-counts_at
returns-in_err-at-clause-counts_at c =
    rw (raised c.from_residual.result c.from_residual.ensures.1) (number_not_counted c.in_err-at.ensures (integer c.args.least c.args.most) c.args.used)

pub returns-in-Ok-clause-counts_at : goal.returns-in-Ok-clause-counts_at
returns-in-Ok-clause-counts_at c =
    integer_counts c.in_ok-at.ensures _ _ c.args.used (Ok c.in-Ok.whole) c.in-Ok.ensures

pub returns-in-Err-clause-counts_at : goal.returns-in-Err-clause-counts_at
returns-in-Err-clause-counts_at c =
    rw c.unread.ensures (integer_counts c.in_ok-at.ensures _ _ c.args.used (Err c.in-Err.e) c.in-Err.ensures)

pub returns-in-Ok-clause-counts_within : goal.returns-in-Ok-clause-counts_within
returns-in-Ok-clause-counts_within c =
    whole_within _ _ _ c.in-Ok.ensures
