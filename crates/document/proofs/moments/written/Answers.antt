-- A date as a number.

use Rattle.document.proofs.moments.written.Goals as goal

pub returns-in-Bare : goal.returns-in-Bare
returns-in-Bare c =
    rw c.in-Bare.is c.written_day.ensures

pub returns-in-Moment : goal.returns-in-Moment
returns-in-Moment c =
    rw c.in-Moment.is c.written_day-in-Moment.ensures
