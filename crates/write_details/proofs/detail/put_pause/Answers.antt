use Rattle.write_details.proofs.Details.{prints_pause}
use Rattle.write_details.proofs.detail.put_pause.Goals as goal

pub returns : goal.returns
returns c buffer left h =
    prints_pause h c.put_span.ensures c.put.ensures
