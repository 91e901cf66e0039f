use Rattle.table_rows.proofs.Standing.{behind_told}
use mathlib.Core.List.{◌∷◌}
use Rattle.write_bytes.proofs.Laid.{lays_then}
use Rattle.write_details.proofs.timed.put_listed.Goals as goal

pub returns : goal.returns
returns c ts k h p =
    let e = behind_told c.behind.ensures h in
    lays_then (c.put_all.ensures _) (lays_then (c.put_applications.ensures ts (125 ∷ k) (rw e p)) (c.put_all-2.ensures k))
