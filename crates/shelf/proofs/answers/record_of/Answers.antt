-- 20 or 21, or the place of the record, if there is one.
use mathlib.Core.Path.{◌∙◌}
use Rattle.shelf.proofs.Surveyed.{raised, asked_first, then_found}
use Rattle.shelf.proofs.answers.record_of.Goals as goal

pub returns-in_err-s : goal.returns-in_err-s
returns-in_err-s c =
    raised c.from_residual.result c.from_residual.ensures.1
    ∙ asked_first c.args.area.now c.args.number (rw c.go_over.ensures at c.in_err-s.ensures)

pub returns : goal.returns
returns c = c.ok_or.ensures.value ∙ then_found c.args.area.now c.args.number (rw c.go_over.ensures at c.in_ok-s.ensures)
