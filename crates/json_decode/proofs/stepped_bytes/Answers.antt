use native.Mathlib.Omega.{arith}
use Rattle.std.proofs.lemmas.Grind.{common_steps}
use mathlib.Core.Path.{◌∙◌}
use Rattle.json_decode.proofs.Ahead.{steps_gives, steps_over}
use Rattle.json_decode.proofs.stepped_bytes.Goals as goal

pub returns-in_err-next : goal.returns-in_err-next
returns-in_err-next c =
    rw c.from_residual.ensures (c.loop-next.invariant ∙ c.in_err-next.ensures)

pub returns-then-not-is_empty : goal.returns-then-not-is_empty
returns-then-not-is_empty c =
    steps_gives c.in_ok-next.ensures _ c.loop-next.invariant (grind (arith, common_steps))

pub loop-next-preserved : goal.loop-next-preserved
loop-next-preserved c =
    c.loop-next.invariant ∙ steps_over c.in_ok-next.ensures (grind (arith, common_steps))
