-- The words looked at so far decide the answer so far.
use Rattle.check_doses.specs.Shapes.{Decides}
use Rattle.check_table.proofs.Laid.{ZerosTo}
use Rattle.check_table.proofs.check.unused.Given as goal

abbrev pub invariant-loop-word : goal.invariant-loop-word
invariant-loop-word l = Decides (ZerosTo l.word-items l.word-index) l.zero
