use native.Mathlib.Omega.{arith}
use Rattle.document_numbers.proofs.Digits.{padded_fits, padding}
use Rattle.document_numbers.proofs.padded.Goals as goal
use Rattle.document_numbers.proofs.padded.Goals.{then-i-raw, else-i-raw}

pub loop-i-init : goal.loop-i-init
loop-i-init c =
    search padding

pub overflow_mul-n : goal.overflow_mul-n
overflow_mul-n c =
    omega (arith, padded_fits _ _ _ _ c.loop-i.invariant (omega arith))

pub overflow_add-n : goal.overflow_add-n
overflow_add-n c =
    omega (arith, padded_fits _ _ _ _ c.loop-i.invariant (omega arith))

pub loop-i-preserved : goal.loop-i-preserved
loop-i-preserved c =
    elim c.if-i-raw.branch [ then-i-raw w ↦ search padding | else-i-raw w ↦ search padding ]

pub returns : goal.returns
returns c =
    search padding
