-- The bytes before the spot have given nothing. The measure is what is left of the text.
use Prim.Native.Nat.{◌-◌}
use mathlib.Core.Path.{◌≡◌}
use lib.ListN.{length}
use Rattle.json_decode.specs.Characters.{left}
use Rattle.json_decode.proofs.stepped_bytes.Given as goal

abbrev pub invariant-loop-next : goal.invariant-loop-next
invariant-loop-next l = left l.text l.fn.s ≡ left l.text l.spot

abbrev pub decreases-loop-next : goal.decreases-loop-next
decreases-loop-next l = length l.text - l.spot.at
