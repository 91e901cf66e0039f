-- Each test of a record fails, or all hold.
use mathlib.Core.Path.{◌∙◌}
use Rattle.shelf.proofs.RecordLaws.{no_head, stood_before, passed}
use Rattle.shelf.proofs.survey.record_at.Goals as goal

pub returns-in_err-size : goal.returns-in_err-size
returns-in_err-size c = rw c.from_residual.ensures (no_head c.args.set.now c.args.area.now c.args.at c.in_err-size.ensures)

pub returns-then-not-note : goal.returns-then-not-note
returns-then-not-note c =
    stood_before c.args.set.now c.args.area.now c.args.at _ (c.from.ensures ∙ c.number_at.ensures) c.if-not-note.ensures

pub returns : goal.returns
returns c =
    rw c.then_some.ensures
    (passed c.args.set.now c.args.area.now c.args.at _ (c.from.ensures ∙ c.number_at.ensures) _ c.in_ok-size.ensures c.if-not-note.ensures _ c.is_plain.ensures)
