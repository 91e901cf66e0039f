-- What writing tells where nothing is lent.
use mathlib.Core.Path.{refl, sym}
use Rattle.read_fields.proofs.Refusals.{raised}
use Rattle.hospital.proofs.LengthCalls.{length_other_size, length_needed}
use Rattle.hospital.proofs.measuring.length_from.Goals as goal

pub returns-in_err-sized : goal.returns-in_err-sized
returns-in_err-sized c =
    let e = c.in_err-sized.ensures.other in
    rw (raised c.from_residual.result c.from_residual.ensures.1, e.1) (sym (length_other_size _ _ _ e.0))

pub returns-in-Ok : goal.returns-in-Ok
returns-in-Ok c = length_needed _ _ _ c.in_ok-sized.ensures.right _ c.in-Ok.ensures.answer refl

pub returns-in-Err : goal.returns-in-Err
returns-in-Err c = length_needed _ _ _ c.in_ok-sized.ensures.right _ c.in-Err.ensures.answer c.needed.ensures
