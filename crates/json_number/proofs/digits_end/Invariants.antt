-- Each digit passed leads back to the same part, so the number ends where it ended.
use Prim.Native.Nat.{◌≤◌}
use mathlib.Core.Path.{◌≡◌}
use mathlib.Core.Bool.{true}
use lib.ListN.{length}
use Rattle.json_grammar.specs.Number.{takes_digits}
use Rattle.json_grammar.specs.Part.{number_stop}
use Rattle.json_grammar.specs.declared.number.InNumber.{InNumber}
use Rattle.json_grammar.proofs.Passes.{Passes}
use Rattle.json_number.proofs.digits_end.Given as goal

abbrev pub invariant-loop-i : goal.invariant-loop-i
invariant-loop-i l = record {
  passed : (n : InNumber) → takes_digits n ≡ true → Passes (number_stop n) (number_stop n) l.text l.at l.i;
  none : length l.text ≤ l.at → l.i ≡ l.at;
}
