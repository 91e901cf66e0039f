use Rattle.write_bytes.proofs.Laid.{lays_none}
use Rattle.write_details.proofs.dosage.put_comma.Goals as goal

pub returns-then-later : goal.returns-then-later
returns-then-later c k =
    rw c.if-later.true (c.put.ensures k)

pub returns-else-later : goal.returns-else-later
returns-else-later c k =
    rw c.if-later.false (lays_none c.args.out.now k)
