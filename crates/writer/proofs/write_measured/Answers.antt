-- The text is put twice: where nothing is lent, for its length, and into the buffer that holds it.
use mathlib.Core.List.{[]}
use native.Mathlib.Omega.{arith}
use Rattle.writer.proofs.Written.{measured, stored, fits, fits_not}
use Rattle.writer.proofs.write_measured.Goals as goal

pub returns-then-out-n : goal.returns-then-out-n
returns-then-out-n c =
    λ t w d s. fits_not (measured (c.put_posology-n.ensures t [] w d) s) c.if-out-n.true

pub returns : goal.returns
returns c =
    λ t w d s. let n = measured (c.put_posology-n.ensures t [] w d) s in fits n c.if-out-n.false (stored (c.put_posology.ensures t [] w d) (omega (arith, c.well_formed.1.1.1.0.0)) (omega (arith, n, c.if-out-n.false)))
