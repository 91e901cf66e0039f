-- Where the number ends is asked of the rest; a number that may end has a byte.
use Prim.Native.Nat.{◌-◌, ◌<◌}
use mathlib.Core.Path.{◌≡◌}
use mathlib.Core.Bool.{true}
use lib.ListN.{length}
use Rattle.json_grammar.specs.Number.{may_end}
use Rattle.json_grammar.specs.Part.{number_stop}
use Rattle.json_grammar.specs.declared.number.InNumber.TheVariants.{Start}
use Rattle.json_grammar.proofs.Passes.{Passes}
use Rattle.json_number.proofs.number_end.Given as goal

abbrev pub invariant-loop-i : goal.invariant-loop-i
invariant-loop-i l = Passes (number_stop l.part) (number_stop Start) l.text l.at l.i × (may_end l.part ≡ true → (l.at < l.i) × (l.at < length l.text))

abbrev pub decreases-loop-i : goal.decreases-loop-i
decreases-loop-i l = length l.text - l.i
