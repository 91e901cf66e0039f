use Rattle.write_bytes.proofs.Laid.{lays_none}
use Rattle.write_posology.proofs.head.put_reserve.Goals as goal

pub returns-then-reserve : goal.returns-then-reserve
returns-then-reserve c k =
    rw c.if-reserve.true (c.put_all.ensures k)

pub returns-else-reserve : goal.returns-else-reserve
returns-else-reserve c k =
    rw c.if-reserve.false (lays_none _ k)
