use mathlib.Core.Path.{refl}
use native.Mathlib.Omega.{arith}
use Rattle.write_bytes.proofs.Laid.{lays_room, copied_all}
use Rattle.write_bytes.proofs.Output.put_all.Goals as goal

pub returns-then-bytes-self : goal.returns-then-bytes-self
returns-then-bytes-self c =
    lays_room c.args.bytes.now refl refl (copied_all _ _ c.args.bytes.now c.copy.ensures (omega arith) (omega (arith, c.if-at-self.true, c.if-bytes-self.true))) (omega (arith, c.well_formed))
