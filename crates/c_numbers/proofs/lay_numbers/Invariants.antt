-- Numbers stored one after another: what is still to be stored, stored, is all of them stored.
use mathlib.Core.Path.{◌≡◌}
use Prim.Native.Nat.{◌+◌, ◌*◌}
use lib.ListN.{length, drop}
use lib.Seq.{sets}
use Rattle.c_numbers.specs.Eights.{all_bytes}
use Rattle.c_numbers.proofs.lay_numbers.Given as goal

abbrev pub invariant-loop-i : goal.invariant-loop-i
invariant-loop-i l = (length l.bytes ≡ length l.initial.bytes) × (sets l.bytes (l.from + l.i * 8) (all_bytes (drop l.i l.numbers)) ≡ sets l.initial.bytes l.from (all_bytes l.numbers))
