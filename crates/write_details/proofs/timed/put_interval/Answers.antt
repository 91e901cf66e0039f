use Rattle.write_details.proofs.TimedDosages.{interval_prints}
use Rattle.write_details.proofs.timed.put_interval.Goals as goal

pub returns : goal.returns
returns c tag =
    interval_prints tag c.a.ensures.here c.b.ensures.here
    c.put_all.ensures c.put_dosage.ensures c.put_integer.ensures c.put_integer-2.ensures c.put.ensures
