-- "Order: 17; 1; then the whole text for 2 and 3"
use Rattle.std.specs.Prelude.{Err}
use Rattle.read_text.proofs.Settled.{one_unused, one_too_long, one_ends, one_bad, one_deep}
use mathlib.Core.Path.{ap, ◌∙◌}
use mathlib.Core.Bool.{not}
use Rattle.read_text.proofs.one_text.Goals as goal

pub returns-then-not-is_use : goal.returns-then-not-is_use
returns-then-not-is_use c =
    one_unused c.args.purpose c.args.text.now c.is_use.ensures (ap not c.if-not-is_use.true)

pub returns-then-text-gt-LONGEST : goal.returns-then-text-gt-LONGEST
returns-then-text-gt-LONGEST c =
    one_too_long c.args.purpose c.args.text.now c.is_use.ensures (ap not c.if-not-is_use.false) c.if-text-gt-LONGEST.true

pub returns-in-Ok : goal.returns-in-Ok
returns-in-Ok c =
    one_ends c.args.purpose c.args.text.now c.is_use.ensures (ap not c.if-not-is_use.false) c.if-text-gt-LONGEST.false c.one_object.ensures c.in-Ok.is

pub returns-in-Err-Broken : goal.returns-in-Err-Broken
returns-in-Err-Broken c =
    one_bad c.args.purpose c.args.text.now c.is_use.ensures (ap not c.if-not-is_use.false) c.if-text-gt-LONGEST.false c.one_object.ensures (c.in-Err-Broken.is ∙ ap Err c.in-Err-Broken.field-0-is)

pub returns-in-Err-Deep : goal.returns-in-Err-Deep
returns-in-Err-Deep c =
    one_deep c.args.purpose c.args.text.now c.is_use.ensures (ap not c.if-not-is_use.false) c.if-text-gt-LONGEST.false c.one_object.ensures (c.in-Err-Deep.is ∙ ap Err c.in-Err-Deep.field-0-is)
