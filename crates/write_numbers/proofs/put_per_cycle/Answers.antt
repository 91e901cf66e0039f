-- The two texts by whether the dosage comes once.
use mathlib.Core.Path.{◌≡◌}
use mathlib.Core.List.{◌∷◌}
use Prim.Native.Nat.{◌%◌}
use native.Mathlib.Omega.{arith}
use Rattle.write_bytes.proofs.Laid.{lays_then, lays_as}
use Rattle.write_numbers.proofs.Cycles.{once_text, per_text}
use Rattle.write_numbers.proofs.put_per_cycle.Goals as goal
use Rattle.write_numbers.proofs.put_per_cycle.Goals.{then-n-ne-ONCE, else-n-ne-ONCE}

pub returns : goal.returns
returns c k =
    let n = c.args.per % 1000000 in
    let e : n % 1000000 ≡ n = omega arith in
    elim c.if-n-ne-ONCE.branch [
      | then-n-ne-ONCE w ↦ lays_as (per_text k n w.if-n-ne-ONCE.true) (lays_then (w.put_all.ensures _) (lays_then (rw e at (w.put_digits.ensures (125 ∷ k))) (rw w.out-is at (c.put.ensures k))))
      | else-n-ne-ONCE w ↦ lays_as (once_text k n w.if-n-ne-ONCE.false) (rw w.out-is at (c.put.ensures k))
    ]
