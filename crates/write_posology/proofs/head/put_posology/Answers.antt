use native.Mathlib.Omega.{arith}
use Rattle.write_bytes.specs.Puts.{Lays}
use Rattle.write_posology.specs.Heads.{head_fields}
use Rattle.write_bytes.proofs.Laid.{lays_then, lays_in}
use Rattle.write_posology.proofs.head.put_posology.Goals as goal

pub returns : goal.returns
returns c t k w p =
    let text : Lays c.new-output.result (head_fields c.args.buffer.now c.args.h t k) k c.put.new.self =
    lays_then (c.put_front.ensures _ w.from w.to) (lays_then (c.put_po.ensures t _ p)
    (lays_then (c.put_meal.ensures _) (lays_then (c.put_strings.ensures _ w) (c.put.ensures k)))) in
    rw c.end.ensures (lays_in c.new-output.ensures.value (grind (arith, text.same_buffer, c.new-output.ensures.same_buffer)) text)
