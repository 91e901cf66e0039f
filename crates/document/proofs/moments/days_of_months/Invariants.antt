-- The days of the months before one, a month a turn.
use mathlib.Core.Path.{◌≡◌}
use Prim.Native.Nat.{◌-◌, ◌≤◌}
use Rattle.document.specs.Moments.{days_of_months}
use Rattle.document.proofs.moments.days_of_months.Given as goal

abbrev pub invariant-loop-m : goal.invariant-loop-m
invariant-loop-m l = (l.days ≡ days_of_months l.year l.m) × (l.m ≤ l.month)

abbrev pub decreases-loop-m : goal.decreases-loop-m
decreases-loop-m l = l.month - l.m
