use Rattle.write_bytes.proofs.Laid.{lays_then, lays_as}
use Rattle.write_posology.proofs.HeadParts.{day_twos}
use Rattle.write_posology.proofs.head.put_day.Goals as goal

pub returns : goal.returns
returns c k y m d =
    lays_as (day_twos _ _ _ k y m d)
    (rw (← c.from.ensures, ← c.from-2.ensures, ← c.from-3.ensures, ← c.from-4.ensures) (lays_then (c.put_two.ensures _) (lays_then (c.put_two-2.ensures _) (lays_then (c.put.ensures _)
    (lays_then (c.put_two-3.ensures _) (lays_then (c.put-2.ensures _) (c.put_two-4.ensures k)))))))
