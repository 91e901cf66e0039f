use Rattle.write_bytes.proofs.Laid.{lays_then, lays_as}
use Rattle.write_numbers.proofs.Digits.{clock_twos}
use Rattle.write_numbers.proofs.put_clock.Goals as goal

pub returns : goal.returns
returns c k =
    lays_as (clock_twos _ k) (lays_then (c.put_two.ensures _) (lays_then (c.put.ensures _) (c.put_two-2.ensures k)))
