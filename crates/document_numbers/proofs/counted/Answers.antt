use native.Mathlib.Omega.{arith}
use Rattle.document_numbers.proofs.Digits.{counted_fits, counting}
use Rattle.document_numbers.proofs.counted.Goals as goal

pub loop-i-init : goal.loop-i-init
loop-i-init c =
    search counting

pub overflow_mul-v : goal.overflow_mul-v
overflow_mul-v c =
    omega (arith, counted_fits _ _ _ c.loop-i.invariant (omega arith) (omega arith))

pub overflow_add-v : goal.overflow_add-v
overflow_add-v c =
    omega (arith, counted_fits _ _ _ c.loop-i.invariant (omega arith) (omega arith))

pub loop-i-preserved : goal.loop-i-preserved
loop-i-preserved c =
    search counting

pub returns : goal.returns
returns c =
    search counting
