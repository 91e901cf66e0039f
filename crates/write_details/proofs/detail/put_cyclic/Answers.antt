-- The pieces of a cycle, one behind the other.
use Rattle.write_details.proofs.Details.{prints_cyclic, ends_cycle}
use Rattle.write_details.proofs.detail.put_cyclic.Goals as goal

pub returns : goal.returns
returns c buffer left h =
    prints_cyclic h c.a.ensures.here c.b.ensures.here c.c.ensures.here c.put_integer.ensures c.put_integer-2.ensures c.put_all.ensures c.put_timed.ensures (ends_cycle c.put_per_cycle.ensures)
