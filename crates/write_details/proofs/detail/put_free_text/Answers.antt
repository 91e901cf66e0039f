use Rattle.write_details.proofs.Details.{prints_free_text}
use Rattle.write_details.proofs.detail.put_free_text.Goals as goal

pub returns : goal.returns
returns c left h =
    prints_free_text h c.a.ensures.here c.b.ensures.here c.part-text.ensures c.put_all.ensures c.put_string.ensures c.put.ensures
