-- Two dates in order, as written.
use Rattle.document.specs.Untable.{date_of}
use Rattle.document.proofs.Calendar.{order_open, order_given}
use Rattle.document.proofs.moments.in_written_order.Goals as goal

pub returns-in-Absent : goal.returns-in-Absent
returns-in-Absent c =
    rw c.in-Absent.is (order_open (date_of c.args.from))

pub returns-in_default : goal.returns-in_default
returns-in_default c =
    rw (c.written.ensures, c.written-in_default.ensures) (order_given (date_of c.args.from) c.args.to c.in_default.not-Absent)
