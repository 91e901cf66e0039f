-- What was passed is zeros, so what is left decides.
use mathlib.Core.Path.{◌≡◌}
use Prim.Native.Nat.{◌-◌}
use lib.ListN.{length, drop}
use Rattle.shelf_list.specs.Shelf.{is_zeros}
use Rattle.shelf_bytes.proofs.places.zeros_from.Given as goal

abbrev pub invariant-loop-at : goal.invariant-loop-at
invariant-loop-at l = is_zeros (drop l.from l.area) ≡ is_zeros (drop l.at l.area)

abbrev pub decreases-loop-at : goal.decreases-loop-at
decreases-loop-at l = length l.area - l.at
