-- The bytes passed are taken behind those before.
use Prim.Native.Nat.{ℕ}
use mathlib.Core.List.{List, ◌++◌}
use lib.ListN.{take}
use Rattle.read_names.proofs.taking.all.Given as goal

abbrev pub invariant-loop-b : goal.invariant-loop-b
invariant-loop-b g l =
    (start : _) (before : List ℕ) → g.T.Takes.took start before l.fn.taken → g.T.Takes.took start (before ++ take l.b-index l.bytes) l.t
