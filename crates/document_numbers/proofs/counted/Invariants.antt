-- `document_numbers::counted` meets its contract: v is what the digits passed count.
use Prim.Native.Nat.{◌-◌}
use lib.ListN.{length}
use Rattle.document_numbers.proofs.Digits.{Counted}
use Rattle.document_numbers.proofs.counted.Given as goal

abbrev pub invariant-loop-i : goal.invariant-loop-i
invariant-loop-i l = Counted l.raw l.i l.v

abbrev pub decreases-loop-i : goal.decreases-loop-i
decreases-loop-i l = length l.raw - l.i
