-- Minutes behind +14:00.
use native.Mathlib.Omega.{arith}
use Rattle.document.proofs.moments.minutes_behind.Goals as goal

pub returns-then-west : goal.returns-then-west
returns-then-west c =
    rw c.if-west.true

pub returns-then-zone-gt840 : goal.returns-then-zone-gt840
returns-then-zone-gt840 c =
    rw c.if-west.false (omega (arith, c.if-zone-gt840.true))

pub returns : goal.returns
returns c =
    rw c.if-west.false
