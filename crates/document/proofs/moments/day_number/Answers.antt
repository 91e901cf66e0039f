-- A day as a number.
use native.Mathlib.Omega.{arith}
use Rattle.document.specs.Moments.{day_number}
use Rattle.document.proofs.DayNumbers.{number_small}
use Rattle.document.proofs.moments.day_number.Goals as goal

pub overflow_add-result : goal.overflow_add-result
unfolding day_number
overflow_add-result c =
    let small = number_small c.args.year c.args.month c.args.day c.ranges.year.fits c.ranges.month.fits c.ranges.day.fits in
    record { fits = rw (c.days_of_years.ensures, c.days_of_months.ensures) (omega arith) }

pub overflow_add-result-2 : goal.overflow_add-result-2
unfolding day_number
overflow_add-result-2 c =
    let small = number_small c.args.year c.args.month c.args.day c.ranges.year.fits c.ranges.month.fits c.ranges.day.fits in
    record { fits = rw (c.days_of_years.ensures, c.days_of_months.ensures) (omega arith) }

pub returns : goal.returns
unfolding day_number
returns c =
    rw (c.days_of_years.ensures, c.days_of_months.ensures)
