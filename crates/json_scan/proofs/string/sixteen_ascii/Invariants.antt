-- As long as each byte passed is plain ASCII, each is a character of its own.
use Prim.Native.Nat.{◌+◌}
use mathlib.Core.Path.{◌≡◌}
use mathlib.Core.Bool.{true}
use Rattle.json_grammar.specs.Part.{string_stop}
use Rattle.json_grammar.specs.declared.string.InString.TheVariants.{Plain}
use Rattle.json_grammar.proofs.Passes.{Passes}
use Rattle.json_scan.proofs.string.sixteen_ascii.Given as goal

abbrev pub invariant-loop-k : goal.invariant-loop-k
invariant-loop-k l = l.all ≡ true → Passes (string_stop Plain) (string_stop Plain) l.text l.at (l.at + l.k)
