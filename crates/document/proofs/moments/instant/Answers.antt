-- A moment as a number.
use native.Mathlib.Omega.{arith}
use Rattle.document.specs.Moments.{instant}
use Rattle.document.proofs.DayNumbers.{number_small}
use Rattle.document.proofs.Calendar.{behind_small}
use Rattle.document.proofs.moments.instant.Goals as goal

pub overflow_mul-result : goal.overflow_mul-result
overflow_mul-result c =
    let day = number_small c.args.year c.args.month c.args.day c.ranges.year.fits c.ranges.month.fits c.ranges.day.fits in
    record { fits = rw c.day_number.ensures (omega arith) }

pub overflow_add-result : goal.overflow_add-result
overflow_add-result c =
    let day = number_small c.args.year c.args.month c.args.day c.ranges.year.fits c.ranges.month.fits c.ranges.day.fits in
    record { fits = rw c.day_number.ensures (omega arith) }

pub overflow_mul-result-2 : goal.overflow_mul-result-2
overflow_mul-result-2 c =
    let behind = behind_small c.args.west c.args.zone in
    record { fits = rw c.minutes_behind.ensures (omega arith) }

pub overflow_add-result-2 : goal.overflow_add-result-2
overflow_add-result-2 c =
    let day = number_small c.args.year c.args.month c.args.day c.ranges.year.fits c.ranges.month.fits c.ranges.day.fits in
    let behind = behind_small c.args.west c.args.zone in
    record { fits = rw (c.day_number.ensures, c.minutes_behind.ensures) (omega arith) }

pub returns : goal.returns
unfolding instant
returns c =
    rw (c.day_number.ensures, c.minutes_behind.ensures)
