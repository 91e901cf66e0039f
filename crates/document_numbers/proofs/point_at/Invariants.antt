-- `document_numbers::point_at` meets its contract: no byte passed is the point.
use Prim.Native.Nat.{◌-◌}
use lib.ListN.{length}
use Rattle.document_numbers.proofs.Point.{NoPoint}
use Rattle.document_numbers.proofs.point_at.Given as goal

abbrev pub invariant-loop-i : goal.invariant-loop-i
invariant-loop-i l = NoPoint l.raw l.i

abbrev pub decreases-loop-i : goal.decreases-loop-i
decreases-loop-i l = length l.raw - l.i
