use Rattle.write_bytes.proofs.Laid.{lays_then}
use Rattle.write_strings.proofs.put_control.Goals as goal

pub returns : goal.returns
returns c k =
    rw (← c.hex.ensures, ← c.hex-2.ensures) (lays_then (c.put_all.ensures _) (c.put_pair.ensures k))
