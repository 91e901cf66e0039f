-- Behind the closing bracket. The loop: skipping on from i, with so many brackets open, the sought one among them, ends where skipping from `at`
-- does. No more are open than bytes were passed.
use Prim.Native.Nat.{◌+◌, ◌-◌, ◌≤◌, ◌<◌}
use lib.ListN.{length}
use Rattle.json_move.specs.Moving.{behind_bracket}
use Rattle.json_grammar.proofs.Moves.{Leads}
use Rattle.json_move.proofs.behind_bracket.Given as goal

abbrev pub invariant-loop-i : goal.invariant-loop-i
invariant-loop-i l = Leads (λ s. behind_bracket s 0) (λ s. behind_bracket s (l.open - 1)) l.text l.at l.i × (0 < l.open) × (l.open ≤ l.i + 1)

abbrev pub decreases-loop-i : goal.decreases-loop-i
decreases-loop-i l = length l.text - l.i
