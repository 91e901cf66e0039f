use Rattle.write_bytes.proofs.Laid.{lays_then}
use Rattle.write_posology.proofs.head.put_front.Goals as goal

pub returns : goal.returns
returns c k vf vt =
    lays_then (c.put.ensures _) (lays_then (c.put_date.ensures _ vf) (lays_then (c.put_date-2.ensures _ vt)
    (lays_then (c.put_reserve.ensures _) (c.put_all.ensures k))))
