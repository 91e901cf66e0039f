-- The days of the years before one.
use Rattle.document.proofs.DayNumbers.{years_counted}
use Rattle.document.proofs.moments.days_of_years.Goals as goal

pub returns : goal.returns
returns c =
    years_counted c.args.year
