use borrow.Author.Rules.{rules}
use Rattle.write_details.proofs.TimedDosages.{times_prints, segments_prints, dosage_only_prints}
use Rattle.write_details.proofs.timed.put_plain.Goals as goal

pub returns-in-7 : goal.returns-in-7
returns-in-7 c =
    times_prints c.tag.ensures.here c.in-7.is c.put_listed.ensures

pub returns-in-8 : goal.returns-in-8
returns-in-8 c =
    segments_prints c.tag.ensures.here c.in-8.is c.put_listed-in-8.ensures

pub returns-in_default : goal.returns-in_default
returns-in_default c = dosage_only_prints c.tag.ensures.here (search rules) (search rules) c.put_dosage_only.ensures
