use Rattle.hospital.proofs.LengthCalls.{length_told, measured_bounded}
use Rattle.hospital.proofs.measuring.posology_length.Goals as goal

pub returns-clause-place_bound : goal.returns-clause-place_bound
returns-clause-place_bound c =
    rw (c.tell.ensures.number, c.tell.ensures.place, c.told_writing.ensures)
    (measured_bounded _ _ _ (length_told _ _ _ _ c.length_from-length.ensures))
