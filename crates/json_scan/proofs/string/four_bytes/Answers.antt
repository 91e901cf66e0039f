-- The second byte, and two tails.
use mathlib.Core.Path.{sym, ◌∙◌}
use native.Mathlib.Omega.{arith}
use Rattle.json_scan.proofs.Steps.{whole}
use Rattle.json_scan.proofs.Wide.{second, tail_2, tail_1}
use Rattle.json_scan.proofs.string.four_bytes.Goals as goal

pub returns-then-is_tail-2 : goal.returns-then-is_tail-2
returns-then-is_tail-2 c =
    let r = second c.requires (omega arith) (sym c.within.ensures ∙ c.if-within.true) in
    let r₁ = tail_2 (omega arith) (sym c.is_tail.ensures ∙ c.if-is_tail.true) r in
    whole (tail_1 (omega arith) (sym c.is_tail-then-is_tail.ensures ∙ c.if-is_tail-2.true) r₁) (omega arith)
