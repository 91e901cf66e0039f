-- The bytes passed and those that are left are what is counted.
use Prim.Native.Nat.{◌+◌}
use mathlib.Core.Path.{◌≡◌}
use lib.ListN.{length}
use Rattle.json_decode.specs.Bytes.{ahead}
use Rattle.json_lay.proofs.length_of.Given as goal

abbrev pub invariant-loop-piece : goal.invariant-loop-piece
invariant-loop-piece l = l.n + length (ahead l.piece-iterator) ≡ length (ahead l.pieces)
