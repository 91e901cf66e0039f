use mathlib.Core.Path.{ap, ◌∙◌}
use native.Mathlib.Omega.{arith}
use borrow.Author.Rules.{rules}
use Rattle.document.specs.Moments.{days_of_months}
use Rattle.document.proofs.WrittenDates.{month_days}
use Rattle.document.proofs.DayNumbers.{months_small, month_more}
use Rattle.document.proofs.moments.days_of_months.Goals as goal

pub loop-m-init : goal.loop-m-init
unfolding days_of_months
loop-m-init c =
    search rules

pub overflow_add-days : goal.overflow_add-days
overflow_add-days c =
    let small = months_small c.args.year c.loop-m.m in
    let month = month_days c.args.year c.loop-m.m in
    record { fits = omega arith }

pub loop-m-preserved : goal.loop-m-preserved
loop-m-preserved c =
    (rw (c.loop-m.invariant.0, c.days_in-days.ensures) (month_more c.args.year c.loop-m.m), omega arith)

pub returns : goal.returns
returns c =
    c.loop-m.invariant.0 ∙ ap (days_of_months c.args.year) (omega arith)
