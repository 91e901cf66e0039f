use Rattle.write_details.proofs.Details.{prints_single}
use Rattle.write_details.proofs.detail.put_single.Goals as goal

pub returns : goal.returns
returns c buffer left h =
    prints_single h c.put_all.ensures c.put_timed.ensures c.put.ensures
