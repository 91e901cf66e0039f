-- Behind the table's last record there is no detail.
use native.Mathlib.Omega.{arith}
use Rattle.write_details.proofs.Details.{detail_inside}
use Rattle.write_details.proofs.detail.put_po.Goals as goal

pub returns-else-i-lt-RECORDS : goal.returns-else-i-lt-RECORDS
returns-else-i-lt-RECORDS c t k p =
    absurd (omega (arith, detail_inside p, c.if-i-lt-RECORDS.false))
