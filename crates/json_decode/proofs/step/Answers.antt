use mathlib.Core.Path.{sym, ◌∙◌}
use Rattle.json_decode.proofs.Ahead.{left_over, left_ends, steps_on}
use Rattle.json_decode.proofs.step.Goals as goal

pub returns-in_err-b : goal.returns-in_err-b
returns-in_err-b c =
    rw c.from_residual.ensures (left_over _ c.args.s c.in_err-b.ensures.lookup.3)

pub returns-in-Goes : goal.returns-in-Goes
returns-in-Goes c =
    let h = c.in_ok-b.ensures.lookup in
    steps_on _ c.args.s h.3.0 _ h.1 _ _ (sym c.in-Goes.is ∙ c.char_after.ensures) c.char_gives.ensures (rw c.gathered.ensures)

pub returns-in-Closes : goal.returns-in-Closes
returns-in-Closes c =
    let h = c.in_ok-b.ensures.lookup in
    left_ends _ c.args.s h.3.0 _ h.1 (rw c.char_after.ensures at c.in-Closes.is)
