-- Laying the bytes that are left into the buffer as it stands makes the buffer that is asked for.
use Prim.Native.Nat.{◌+◌}
use lib.ListN.{drop}
use Rattle.json_lay.proofs.Pieces.{Puts}
use Rattle.json_lay.proofs.put.Given as goal

abbrev pub invariant-loop-i : goal.invariant-loop-i
invariant-loop-i l = Puts l.initial.buffer l.to l.bytes l.buffer (l.to + l.i) (drop l.i l.bytes)
