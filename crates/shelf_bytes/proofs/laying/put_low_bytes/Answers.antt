-- One byte behind the other.
use Rattle.write_bytes.proofs.Laid.{lays_then}
use Rattle.shelf_bytes.proofs.laying.put_low_bytes.Goals as goal

pub returns : goal.returns
returns c k = lays_then (c.put.ensures _) (c.put-2.ensures k)
