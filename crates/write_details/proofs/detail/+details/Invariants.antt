-- Details and sequences, which call one another: the sequences still allowed fall from a sequence to those inside it, and each other call falls by one.
-- The objects of a sequence are put in turn (`Reaches`).
use Rattle.std.proofs.Common.{◌+◌, ◌-◌, ◌*◌}
use Rattle.write_details.proofs.Objects.{Reaches}
use Rattle.write_details.proofs.detail.+details.Given as goal

abbrev pub decreases-put_detail : goal.decreases-put_detail
decreases-put_detail l = 4 * l.left + 1

abbrev pub decreases-put_object : goal.decreases-put_object
decreases-put_object l = 4 * l.left + 2

abbrev pub decreases-put_objects : goal.decreases-put_objects
decreases-put_objects l = 4 * l.left + 3

abbrev pub decreases-put_sequence : goal.decreases-put_sequence
decreases-put_sequence l = 4 * l.left

abbrev pub invariant-put_objects-loop-r : goal.invariant-put_objects-loop-r
invariant-put_objects-loop-r l =
    Reaches l.words l.buffer l.left l.end l.i l.r l.initial.out l.out

abbrev pub decreases-put_objects-loop-r : goal.decreases-put_objects-loop-r
decreases-put_objects-loop-r l = l.end - l.r
