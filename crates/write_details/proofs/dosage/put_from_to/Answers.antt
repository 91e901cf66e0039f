use Rattle.write_details.proofs.Dosages.{from_to_opens}
use Rattle.write_details.proofs.dosage.put_from_to.Goals as goal

pub returns : goal.returns
returns c tag =
    from_to_opens tag
    c.a.ensures.here c.b.ensures.here c.c.ensures.here c.d.ensures.here
    c.put_decimal.ensures c.put_decimal-2.ensures c.put_integer.ensures c.put_integer-2.ensures
