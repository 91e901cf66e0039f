use mathlib.Core.Path.{◌≡◌}
use Prim.Native.Nat.{◌%◌}
use native.Mathlib.Omega.{arith}
use Rattle.document.specs.Spell.{spell}
use Rattle.document.specs.Plain.{amount}
use Rattle.write_bytes.proofs.Laid.{lays_then}
use Rattle.write_details.proofs.dosage.put_decimal.Goals as goal

pub returns : goal.returns
returns c k h =
    let e : c.args.n % 1000000000000 ≡ c.args.n = omega arith in
    lays_then (c.put_all.ensures (spell (amount c.args.n) k)) (rw e at (c.put_amount.ensures k))
