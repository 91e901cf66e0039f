use Rattle.write_details.proofs.Details.{prints_daily}
use Rattle.write_details.proofs.detail.put_daily.Goals as goal

pub returns : goal.returns
returns c buffer left h =
    prints_daily h c.a.ensures.here c.b.ensures.here c.c.ensures.here c.d.ensures.here c.put_decimal.ensures c.put_decimal-2.ensures c.put_decimal-3.ensures c.put_decimal-4.ensures c.put_all.ensures
