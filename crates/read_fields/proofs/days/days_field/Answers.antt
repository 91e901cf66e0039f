-- A list of days that must be there: empty, or read.
use mathlib.Core.Path.{sym, ◌∙◌}
use Rattle.read_fields.specs.DaySets.{most_of}
use Rattle.read_fields.proofs.DayElements.{no_days, days_read}
use Rattle.read_fields.proofs.days.days_field.Goals as goal

pub returns-then-at_end-clause-reads_days : goal.returns-then-at_end-clause-reads_days
returns-then-at_end-clause-reads_days c h =
    no_days c.args.text.now c.args.brace c.args.v (most_of c.args.days) c.args.used c.in_ok-at.at c.first_in.result (c.in_ok-at.ensures.list_needed h) c.first_in.ensures (sym c.at_end.ensures ∙ c.if-at_end.true)

pub returns-clause-reads_days : goal.returns-clause-reads_days
returns-clause-reads_days c h =
    days_read c.args.text.now c.args.brace c.args.v (most_of c.args.days) c.args.used c.in_ok-at.at c.first_in.result (c.in_ok-at.ensures.list_needed h) c.first_in.ensures (sym c.at_end.ensures ∙ c.if-at_end.false) c.days_in.result (rw c.most.ensures at c.days_in.ensures.days_in)
