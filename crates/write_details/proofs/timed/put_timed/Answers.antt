use borrow.Author.Rules.{rules}
use Rattle.write_details.proofs.TimedDosages.{week_days_prints, days_of_month_prints, known_interval_prints, plain_prints}
use Rattle.write_details.proofs.timed.put_timed.Goals as goal

pub returns-in-9 : goal.returns-in-9
returns-in-9 c =
    week_days_prints c.tag.ensures.here c.in-9.is c.put_under_days.ensures

pub returns-in-10 : goal.returns-in-10
returns-in-10 c =
    days_of_month_prints c.tag.ensures.here c.in-10.is c.put_under_days-in-10.ensures

pub returns-in-11 : goal.returns-in-11
returns-in-11 c =
    known_interval_prints c.tag.ensures.here c.in-11.is c.put_interval.ensures

pub returns-in_default : goal.returns-in_default
returns-in_default c = plain_prints c.tag.ensures.here (search rules) (search rules) (search rules) c.put_plain.ensures
