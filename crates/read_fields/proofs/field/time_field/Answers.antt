-- A time of day that must be there.
use Rattle.read_fields.proofs.DateFields.{time_needed}
use Rattle.read_fields.proofs.field.time_field.Goals as goal

pub returns : goal.returns
returns c h =
    time_needed c.in_ok-at.ensures c.in_ok-quote.ensures c.args.brace h c.time_read.result c.time_read.ensures
