use Rattle.write_details.proofs.Dosages.{simple_opens}
use Rattle.write_details.proofs.dosage.put_simple.Goals as goal

pub returns : goal.returns
returns c tag =
    simple_opens tag c.a.ensures.here c.put_decimal.ensures
