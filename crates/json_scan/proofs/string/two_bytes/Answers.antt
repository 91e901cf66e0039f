-- The second byte ends the character.
use mathlib.Core.Path.{sym, ◌∙◌}
use native.Mathlib.Omega.{arith}
use Rattle.json_grammar.specs.Byte.{is_tail}
use Rattle.json_scan.proofs.Steps.{whole}
use Rattle.json_scan.proofs.Wide.{second}
use Rattle.json_scan.proofs.string.two_bytes.Goals as goal

pub returns-then-is_tail : goal.returns-then-is_tail
unfolding is_tail
returns-then-is_tail c =
    whole (second c.requires (omega arith) (sym c.is_tail.ensures ∙ c.if-is_tail.true)) (omega arith)
