-- What the walk of the first 32,768 bytes tells of the run.
use Rattle.std.specs.Prelude.{Err}
use Rattle.read_text.proofs.Settled.{first_unused, first_blank, first_ends, first_bad, first_deep}
use mathlib.Core.Path.{ap, ◌∙◌}
use mathlib.Core.Bool.{not}
use Rattle.read_text.proofs.first_text.Goals as goal

pub returns-then-not-is_use : goal.returns-then-not-is_use
returns-then-not-is_use c =
    first_unused c.args.purpose c.args.run.now c.is_use.ensures (ap not c.if-not-is_use.true)

pub returns-then-run-blanks_end : goal.returns-then-run-blanks_end
returns-then-run-blanks_end c =
    first_blank c.args.purpose c.args.run.now c.is_use.ensures (ap not c.if-not-is_use.false) c.blanks_end.ensures c.if-run-blanks_end.true

pub returns-in-Ok : goal.returns-in-Ok
returns-in-Ok c =
    first_ends c.args.purpose c.args.run.now c.is_use.ensures (ap not c.if-not-is_use.false) c.blanks_end.ensures c.if-run-blanks_end.false c.begun.ensures c.first_object.ensures c.in-Ok.is

pub returns-in-Err-Broken : goal.returns-in-Err-Broken
returns-in-Err-Broken c =
    first_bad c.args.purpose c.args.run.now c.is_use.ensures (ap not c.if-not-is_use.false) c.blanks_end.ensures c.if-run-blanks_end.false c.begun.ensures c.first_object.ensures (c.in-Err-Broken.is ∙ ap Err c.in-Err-Broken.field-0-is) c.not_ended.ensures

pub returns-in-Err-Deep : goal.returns-in-Err-Deep
returns-in-Err-Deep c =
    first_deep c.args.purpose c.args.run.now c.is_use.ensures (ap not c.if-not-is_use.false) c.blanks_end.ensures c.if-run-blanks_end.false c.begun.ensures c.first_object.ensures (c.in-Err-Deep.is ∙ ap Err c.in-Err-Deep.field-0-is)
