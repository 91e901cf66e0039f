use Prim.Native.Nat.{◌+◌, ◌-◌, ◌*◌}
use Rattle.check_table.proofs.Details.{Alike}
use Rattle.check_table.proofs.check.+details.Given as goal

abbrev pub decreases-detail : goal.decreases-detail
decreases-detail l = 4 * l.left + 1

abbrev pub decreases-object : goal.decreases-object
decreases-object l = 4 * l.left + 2

abbrev pub decreases-objects : goal.decreases-objects
decreases-objects l = 4 * l.left + 3

abbrev pub decreases-sequence : goal.decreases-sequence
decreases-sequence l = 4 * l.left

abbrev pub invariant-objects-loop-at : goal.invariant-objects-loop-at
invariant-objects-loop-at l = Alike l.words l.buffer l.left l.end l.at l.used l.i l.text

abbrev pub decreases-objects-loop-at : goal.decreases-objects-loop-at
decreases-objects-loop-at l = l.end - l.at
