use Rattle.write_details.proofs.Dosages.{range_opens}
use Rattle.write_details.proofs.dosage.put_range.Goals as goal

pub returns : goal.returns
returns c tag =
    range_opens tag c.a.ensures.here c.b.ensures.here c.put_decimal.ensures c.put_decimal-2.ensures
