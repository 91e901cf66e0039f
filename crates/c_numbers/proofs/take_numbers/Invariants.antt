-- Numbers taken one after another: those below i are the numbers of their bytes.
use mathlib.Core.Path.{◌≡◌}
use Prim.Native.Nat.{ℕ, ◌+◌, ◌*◌, ◌<◌}
use lib.ListN.{length, drop, get_or}
use Rattle.c_numbers.specs.Eights.{number_in}
use Rattle.c_numbers.proofs.take_numbers.Given as goal

abbrev pub invariant-loop-i : goal.invariant-loop-i
invariant-loop-i l = (length l.numbers ≡ length l.initial.numbers) × ((k : ℕ) → k < l.i → get_or l.numbers k 0 ≡ number_in 8 (drop (l.from + k * 8) l.bytes))
