-- The number of elements. The loop: so many are counted, and the others stand from i on.
use Rattle.json_move.proofs.Counts.{Counted}
use Rattle.json_move.proofs.count.Given as goal

abbrev pub invariant-loop-n : goal.invariant-loop-n
invariant-loop-n l = Counted l.text l.at l.i l.n
