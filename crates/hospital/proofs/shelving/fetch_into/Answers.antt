-- The plain text is read where it was found.
use mathlib.Core.Path.{sym}
use Rattle.read_fields.proofs.Refusals.{raised}
use Rattle.hospital.proofs.FetchCalls.{other_size, not_found, found_read}
use Rattle.hospital.proofs.shelving.fetch_into.Goals as goal

pub returns-in_err-sized : goal.returns-in_err-sized
returns-in_err-sized c =
    let e = c.in_err-sized.ensures.other in
    rw (raised c.from_residual.result c.from_residual.ensures.1, e.1) (other_size _ _ _ _ e.0)

pub returns-in_err-found : goal.returns-in_err-found
returns-in_err-found c =
    rw (raised c.from_residual-in_err-found.result c.from_residual-in_err-found.ensures.1)
    (not_found _ _ _ _ _ c.in_ok-sized.ensures.right (sym c.in_err-found.ensures))

pub returns : goal.returns
returns c =
    found_read _ _ _ _ _ _ c.in_ok-sized.ensures.right (sym c.in_ok-found.ensures) c.read_into.ensures
