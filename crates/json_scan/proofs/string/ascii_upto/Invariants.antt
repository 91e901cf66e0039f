-- Each byte passed is a character of its own, so the string ends where it ended.
use Prim.Native.Nat.{◌≤◌}
use mathlib.Core.Path.{◌≡◌}
use Rattle.json_grammar.specs.Part.{string_stop}
use Rattle.json_grammar.specs.declared.string.InString.TheVariants.{Plain}
use Rattle.json_grammar.proofs.Passes.{Passes}
use Rattle.json_scan.proofs.string.ascii_upto.Given as goal

abbrev pub invariant-loop-i : goal.invariant-loop-i
invariant-loop-i l = record {
  passed : Passes (string_stop Plain) (string_stop Plain) l.text l.at l.i;
  none : l.most ≤ l.at → l.i ≡ l.at;
}
