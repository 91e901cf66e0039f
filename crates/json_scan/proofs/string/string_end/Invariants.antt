-- Each character passed leaves where the string ends as it was; the rest is asked of the states.
use Prim.Native.Nat.{◌-◌}
use lib.ListN.{length}
use Rattle.json_grammar.specs.Part.{string_stop}
use Rattle.json_grammar.specs.declared.string.InString.TheVariants.{Plain}
use Rattle.json_grammar.proofs.Passes.{Passes}
use Rattle.json_scan.proofs.string.string_end.Given as goal

abbrev pub invariant-loop-i : goal.invariant-loop-i
invariant-loop-i l = Passes (string_stop Plain) (string_stop Plain) l.text l.at l.i

abbrev pub decreases-loop-i : goal.decreases-loop-i
decreases-loop-i l = length l.text - l.i
