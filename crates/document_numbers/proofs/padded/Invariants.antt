-- `document_numbers::padded` meets its contract: n is v with the digits passed behind it.
use Prim.Native.Nat.{◌-◌}
use Rattle.document_numbers.proofs.Digits.{Padded}
use Rattle.document_numbers.proofs.padded.Given as goal

abbrev pub invariant-loop-i : goal.invariant-loop-i
invariant-loop-i l = Padded l.raw l.v l.i l.n

abbrev pub decreases-loop-i : goal.decreases-loop-i
decreases-loop-i l = 6 - l.i
