use Rattle.write_details.proofs.Applications.{at_time_prints, in_segment_prints}
use Rattle.write_details.proofs.dosage.put_application.Goals as goal

pub returns-then-tag-eq-AT_TIME : goal.returns-then-tag-eq-AT_TIME
returns-then-tag-eq-AT_TIME c =
    at_time_prints c.tag.ensures.here c.a.ensures.here c.if-tag-eq-AT_TIME.true
    c.put_all.ensures c.put_dosage.ensures c.put_all-then-tag-eq-AT_TIME.ensures c.put_time.ensures c.put_all-then-tag-eq-AT_TIME-2.ensures

pub returns-else-tag-eq-AT_TIME : goal.returns-else-tag-eq-AT_TIME
returns-else-tag-eq-AT_TIME c =
    in_segment_prints c.tag.ensures.here c.a-else-tag-eq-AT_TIME.ensures.here c.if-tag-eq-AT_TIME.false
    c.put_all.ensures c.put_dosage.ensures c.put_integer.ensures c.put.ensures
