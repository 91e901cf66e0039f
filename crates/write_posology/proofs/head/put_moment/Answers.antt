use Rattle.write_bytes.proofs.Laid.{lays_then, lays_as}
use Rattle.write_posology.proofs.HeadParts.{moment_parts}
use Rattle.write_posology.proofs.head.put_moment.Goals as goal

pub returns : goal.returns
returns c k s z =
    lays_as (moment_parts _ c.args.west _ k s z c.sign.ensures)
    (rw (← c.from.ensures, ← c.from-2.ensures) (lays_then (c.put.ensures _) (lays_then (c.put_time.ensures _) (lays_then (c.put-2.ensures _) (c.put_clock.ensures k)))))
