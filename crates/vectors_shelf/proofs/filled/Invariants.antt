-- Each turn leaves a byte out at the end.
use Rattle.std.proofs.Common.{◌≤◌, length}
use Rattle.vectors_shelf.proofs.filled.Given as goal

abbrev pub invariant-loop-n : goal.invariant-loop-n
invariant-loop-n l = l.n ≤ length l.area

abbrev pub decreases-loop-n : goal.decreases-loop-n
decreases-loop-n l = l.n
