use Rattle.write_bytes.proofs.Laid.{lays_then, lays_as}
use Rattle.write_numbers.proofs.Digits.{amount_bare, amount_pointed}
use Rattle.write_numbers.proofs.put_amount.Goals as goal

pub returns-then-left-gt0 : goal.returns-then-left-gt0
returns-then-left-gt0 c k =
    lays_as (amount_pointed _ k c.if-left-gt0.true) (lays_then (c.put_digits.ensures _) (lays_then (c.put.ensures _) (c.put_fraction.ensures k)))

pub returns-else-left-gt0 : goal.returns-else-left-gt0
returns-else-left-gt0 c k =
    lays_as (amount_bare _ k c.if-left-gt0.false) (c.put_digits.ensures k)
