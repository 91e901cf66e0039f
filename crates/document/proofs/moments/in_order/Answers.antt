-- Two dates in order: by their moments where both have a time.
use mathlib.Core.Path.{◌∙◌}
use Rattle.document.specs.Untable.{date_of}
use Rattle.document.specs.declared.table.Date.TheVariants as D
use Rattle.document.proofs.Calendar.{by_written_start, by_written_end}
use Rattle.document.proofs.moments.in_order.Goals as goal

pub returns-in_default : goal.returns-in_default
returns-in_default c =
    c.in_written_order.ensures ∙ by_written_start c.args.from (date_of c.args.to) c.in_default.not-Moment

pub returns-in-Moment-to : goal.returns-in-Moment-to
returns-in-Moment-to c =
    rw (c.in-Moment.is, c.in-Moment-to.is, c.instant-start.ensures, c.instant.ensures)

pub returns-in_default-to : goal.returns-in_default-to
returns-in_default-to c =
    rw c.in-Moment.is
    (c.in_written_order-in_default-to.ensures
    ∙ by_written_end (date_of (D.Moment c.in-Moment.year c.in-Moment.month c.in-Moment.day c.in-Moment.second c.in-Moment.west c.in-Moment.zone)) c.args.to c.in_default-to.not-Moment)
