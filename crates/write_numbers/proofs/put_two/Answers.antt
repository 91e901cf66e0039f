use Rattle.write_bytes.proofs.Laid.{lays_then, lays_as}
use Rattle.write_numbers.proofs.Digits.{two_digits}
use Rattle.write_numbers.proofs.put_two.Goals as goal

pub returns : goal.returns
returns c k =
    lays_as (two_digits _ k c.digit.ensures c.digit-2.ensures) (lays_then (c.put.ensures _) (c.put-2.ensures k))
