-- Characters that are spelled as they are, of one byte or of several, are passed over. The measure is what is left of the text.
use Prim.Native.Nat.{◌-◌}
use lib.ListN.{length}
use Rattle.json_decode.specs.Characters.{spot_at, Run}
use Rattle.json_decode.proofs.plain_within.Given as goal

abbrev pub invariant-loop-i : goal.invariant-loop-i
invariant-loop-i l = Run l.text (spot_at l.at) l.i

abbrev pub decreases-loop-i : goal.decreases-loop-i
decreases-loop-i l = length l.text - l.i
