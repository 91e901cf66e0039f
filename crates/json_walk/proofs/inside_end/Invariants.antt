-- At each place the rest is walked as it is from the start; each turn moves ahead.
use Prim.Native.Nat.{◌-◌}
use lib.ListN.{length}
use Rattle.json_walk.proofs.Walks.{Inside}
use Rattle.json_walk.proofs.inside_end.Given as goal

abbrev pub invariant-loop-here : goal.invariant-loop-here
invariant-loop-here l = Inside l.text l.start l.here

abbrev pub decreases-loop-here : goal.decreases-loop-here
decreases-loop-here l = length l.text - l.here.at
