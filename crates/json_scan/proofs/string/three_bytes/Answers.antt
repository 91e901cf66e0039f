-- The second byte, and a tail that ends the character.
use mathlib.Core.Path.{sym, ◌∙◌}
use native.Mathlib.Omega.{arith}
use Rattle.json_scan.proofs.Steps.{whole}
use Rattle.json_scan.proofs.Wide.{second, tail_1}
use Rattle.json_scan.proofs.string.three_bytes.Goals as goal

pub returns-then-is_tail : goal.returns-then-is_tail
returns-then-is_tail c =
    let r = second c.requires (omega arith) (sym c.within.ensures ∙ c.if-within.true) in
    whole (tail_1 (omega arith) (sym c.is_tail.ensures ∙ c.if-is_tail.true) r) (omega arith)
