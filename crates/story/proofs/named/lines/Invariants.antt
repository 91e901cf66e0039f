-- The buffers keep their lengths; each line ends behind its start.
use Rattle.std.proofs.Common.{◌≡◌, ◌-◌, length}
use Rattle.story.proofs.named.lines.Given as goal

abbrev pub invariant-loop-from : goal.invariant-loop-from
invariant-loop-from g l = (length l.strings ≡ length l.initial.strings) × (length l.out ≡ length l.initial.out)

abbrev pub decreases-loop-from : goal.decreases-loop-from
decreases-loop-from g l = length l.given - l.from
