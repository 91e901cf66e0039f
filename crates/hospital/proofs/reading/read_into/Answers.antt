-- Each answer of reading gives the number, the place, the strings and the area.
use Rattle.read_fields.proofs.Refusals.{raised}
use Rattle.hospital.proofs.TextCalls.{other_size, read_refused, read_taken}
use Rattle.hospital.proofs.reading.read_into.Goals as goal

pub returns-in_err-sized : goal.returns-in_err-sized
returns-in_err-sized c =
    let e = c.in_err-sized.ensures.other in
    rw (raised c.from_residual.result c.from_residual.ensures.1, e.1) (other_size _ _ _ _ e.0)

pub returns-in_err-head : goal.returns-in_err-head
returns-in_err-head c =
    rw (raised c.from_residual-in_err-head.result c.from_residual-in_err-head.ensures.1)
    (read_refused _ _ _ _ _ c.in_ok-sized.ensures.right _ c.in_err-head.ensures)

pub returns : goal.returns
returns c =
    read_taken _ _ _ _ _ c.in_ok-sized.ensures.right _ c.in_ok-head.ensures c.lay_read.ensures
