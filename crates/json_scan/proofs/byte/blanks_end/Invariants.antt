-- What is left behind blanks is the same from every blank passed.
use Rattle.json_grammar.specs.Byte.{blanked}
use Rattle.json_grammar.proofs.Moves.{Leads}
use Rattle.json_scan.proofs.byte.blanks_end.Given as goal

abbrev pub invariant-loop-i : goal.invariant-loop-i
invariant-loop-i l = Leads blanked blanked l.text l.at l.i
