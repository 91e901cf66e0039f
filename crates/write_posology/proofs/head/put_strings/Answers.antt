use Rattle.write_bytes.proofs.Laid.{lays_then}
use Rattle.write_posology.proofs.head.put_strings.Goals as goal

pub returns : goal.returns
returns c k w =
    lays_then (c.put_text.ensures _ w.unit) (lays_then (c.put_text-2.ensures _ w.instructions)
    (lays_then (c.put_text-3.ensures _ w.roa) (c.put_text-4.ensures k w.moa)))
