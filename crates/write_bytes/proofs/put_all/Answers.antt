use native.Mathlib.Omega.{arith}
use Rattle.write_bytes.proofs.Laid.{lays_in}
use Rattle.write_bytes.proofs.put_all.Goals as goal

pub returns : goal.returns
returns c k = rw c.end.ensures (lays_in c.new-output.ensures.value (grind (arith, (c.put_all.ensures k).same_buffer, c.new-output.ensures.same_buffer)) (c.put_all.ensures k))
