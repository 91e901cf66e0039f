-- Behind a number. The loop: skipping on from i ends where skipping from `at` does.
use Rattle.json_move.specs.Moving.{behind_number}
use Rattle.json_grammar.proofs.Moves.{Leads}
use Rattle.json_move.proofs.behind_number.Given as goal

abbrev pub invariant-loop-i : goal.invariant-loop-i
invariant-loop-i l = Leads behind_number behind_number l.text l.at l.i
