-- Behind a string. The loop: skipping on from i ends where skipping from `at` does; the text that is left gets shorter.
use Prim.Native.Nat.{◌-◌}
use lib.ListN.{length}
use Rattle.json_move.specs.Moving.{behind_string}
use Rattle.json_grammar.proofs.Moves.{Leads}
use Rattle.json_move.proofs.behind_string.Given as goal

abbrev pub invariant-loop-i : goal.invariant-loop-i
invariant-loop-i l = Leads behind_string behind_string l.text l.at l.i

abbrev pub decreases-loop-i : goal.decreases-loop-i
decreases-loop-i l = length l.text - l.i
