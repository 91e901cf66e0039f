use native.Mathlib.Omega.{arith}
use Rattle.write_bytes.proofs.Laid.{lays_then, lays_as}
use Rattle.write_numbers.proofs.Digits.{whole_tens}
use Rattle.write_numbers.proofs.put_digits.Goals as goal

pub returns : goal.returns
returns c k =
    lays_as (whole_tens _ _ (omega arith) c.digit.ensures)
    (lays_then (c.put_tens.ensures _) (lays_then (c.put_tens-2.ensures _) (lays_then (c.put_tens-3.ensures _)
    (lays_then (c.put_tens-4.ensures _) (lays_then (c.put_tens-5.ensures _) (c.put.ensures k))))))
