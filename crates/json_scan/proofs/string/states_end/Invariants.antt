-- Where the string ends is asked of the rest, in the state that the bytes passed lead to.
use Prim.Native.Nat.{◌-◌}
use lib.ListN.{length}
use Rattle.json_grammar.specs.Part.{string_stop}
use Rattle.json_grammar.specs.declared.string.InString.TheVariants.{Plain}
use Rattle.json_grammar.proofs.Passes.{Passes}
use Rattle.json_scan.proofs.string.states_end.Given as goal

abbrev pub invariant-loop-i : goal.invariant-loop-i
invariant-loop-i l = Passes (string_stop l.state) (string_stop Plain) l.text l.at l.i

abbrev pub decreases-loop-i : goal.decreases-loop-i
decreases-loop-i l = length l.text - l.i
