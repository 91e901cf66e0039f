use Rattle.write_bytes.proofs.Laid.{lays_then, lays_as}
use Rattle.write_numbers.proofs.Digits.{time_parts}
use Rattle.write_numbers.proofs.put_time.Goals as goal

pub returns : goal.returns
returns c k =
    lays_as (time_parts _ k) (lays_then (c.put_clock.ensures _) (lays_then (c.put.ensures _) (c.put_two.ensures k)))
