use mathlib.Core.Path.{◌≡◌}
use Prim.Native.Nat.{◌%◌}
use native.Mathlib.Omega.{arith}
use Rattle.document.specs.Spell.{spell}
use Rattle.document.specs.Plain.{whole}
use Rattle.write_bytes.proofs.Laid.{lays_then}
use Rattle.write_details.proofs.dosage.put_integer.Goals as goal

pub returns : goal.returns
returns c k h =
    let e : c.args.n % 1000000 ≡ c.args.n = omega arith in
    lays_then (c.put_all.ensures (spell (whole c.args.n) k)) (rw e at (c.put_digits.ensures k))
