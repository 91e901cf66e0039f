use Rattle.write_numbers.proofs.Fractions.{Behind}
use Rattle.write_numbers.proofs.put_fraction.Given as goal

abbrev pub invariant-loop-left : goal.invariant-loop-left
invariant-loop-left l = Behind l.initial.out l.out l.millionths l.left l.scale

abbrev pub decreases-loop-left : goal.decreases-loop-left
decreases-loop-left l = l.scale
