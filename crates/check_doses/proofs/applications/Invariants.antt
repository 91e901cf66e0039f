-- The applications from here on are right exactly if all are.
use Prim.Native.Nat.{◌-◌}
use Rattle.check_doses.specs.Doses.{ApplicationsAt}
use Rattle.check_doses.proofs.applications.Given as goal

abbrev pub invariant-loop-at : goal.invariant-loop-at
invariant-loop-at l = (ApplicationsAt l.words l.end l.each l.at → ApplicationsAt l.words l.end l.each l.i) × (ApplicationsAt l.words l.end l.each l.i → ApplicationsAt l.words l.end l.each l.at)

abbrev pub decreases-loop-at : goal.decreases-loop-at
decreases-loop-at l = l.end - l.at
