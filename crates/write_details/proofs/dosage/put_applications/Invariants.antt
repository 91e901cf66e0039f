use mathlib.Core.Bool.{not}
use Prim.Native.Nat.{◌-◌, ◌≤◌}
use lib.Dec.{eqb}
use Rattle.write_details.specs.Prints.{ApplicationsPrint}
use Rattle.write_details.proofs.Listing.{Listed}
use Rattle.write_details.proofs.dosage.put_applications.Given as goal

abbrev pub invariant-loop-r : goal.invariant-loop-r
invariant-loop-r l = (l.i ≤ l.r) × Listed (ApplicationsPrint l.words l.end) l.i l.initial.out l.r (not (eqb l.r l.i)) l.out

abbrev pub decreases-loop-r : goal.decreases-loop-r
decreases-loop-r l = l.end - l.r
