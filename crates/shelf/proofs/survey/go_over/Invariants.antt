-- The loop keeps the entries passed, the set of their numbers and what is told of them; each way out is a law of Turns.
use Prim.Native.Nat.{◌-◌}
use lib.ListN.{length}
use Rattle.shelf.proofs.Turns.{Going}
use Rattle.shelf.proofs.survey.go_over.Given as goal

abbrev pub invariant-loop-at : goal.invariant-loop-at
invariant-loop-at l = Going l.area l.number l.position l.at l.set l.s

abbrev pub decreases-loop-at : goal.decreases-loop-at
decreases-loop-at l = length l.area - l.at
