-- The answer to a run gives the number, the place, the strings and the area.
use Rattle.read_fields.proofs.Refusals.{raised}
use Rattle.hospital.proofs.RunCalls.{other_size, next_refused, next_blank, next_taken}
use Rattle.hospital.proofs.running.next_into.Goals as goal

pub returns-in_err-sized : goal.returns-in_err-sized
returns-in_err-sized c =
    let e = c.in_err-sized.ensures.other in
    rw (raised c.from_residual.result c.from_residual.ensures.1, e.1) (other_size _ _ _ _ e.0)

pub returns-in_err-end : goal.returns-in_err-end
returns-in_err-end c =
    rw (raised c.from_residual-in_err-end.result c.from_residual-in_err-end.ensures.1)
    (next_refused _ _ _ _ _ c.in_ok-sized.ensures.right _ c.in_err-end.ensures)

pub returns-in-Taken : goal.returns-in-Taken
returns-in-Taken c =
    next_taken _ _ _ _ _ c.in_ok-sized.ensures.right _ _ (rw c.in-Taken.is at c.in_ok-end.ensures) c.lay_read.ensures

pub returns-in-Blank : goal.returns-in-Blank
returns-in-Blank c =
    next_blank _ _ _ _ _ c.in_ok-sized.ensures.right _ (rw c.in-Blank.is at c.in_ok-end.ensures)
