use mathlib.Core.List.{List}
use Prim.Native.Nat.{ℕ, ◌-◌, ◌≤◌}
use lib.ListN.{length, drop}
use Rattle.document.specs.Spell.{quoted}
use Rattle.write_bytes.specs.Puts.{Lays}
use Rattle.write_strings.proofs.put_string.Given as goal

abbrev pub invariant-loop-at : goal.invariant-loop-at
invariant-loop-at l = (l.at ≤ length l.bytes) × ((k : List ℕ) → Lays l.initial.out (quoted l.bytes k) (quoted (drop l.at l.bytes) k) l.out)

abbrev pub decreases-loop-at : goal.decreases-loop-at
decreases-loop-at l = length l.bytes - l.at
