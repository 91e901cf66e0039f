-- A turn for each byte of the area, which keeps its length.
use Rattle.std.proofs.Common.{◌≡◌, ◌-◌, length}
use Rattle.vectors_shelf.proofs.lay.Given as goal

abbrev pub invariant-loop-i : goal.invariant-loop-i
invariant-loop-i l = length l.area ≡ length l.initial.area

abbrev pub decreases-loop-i : goal.decreases-loop-i
decreases-loop-i l = length l.area - l.i
