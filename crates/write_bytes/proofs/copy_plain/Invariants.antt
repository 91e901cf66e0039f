use mathlib.Core.Path.{◌≡◌}
use mathlib.Core.Bool.{true}
use Prim.Native.Nat.{ℕ, ◌<◌}
use lib.ListN.{get_or, take}
use lib.Seq.{sets}
use Rattle.write_bytes.specs.Plain.{is_plain}
use Rattle.write_bytes.proofs.copy_plain.Given as goal

abbrev pub invariant-loop-i : goal.invariant-loop-i
invariant-loop-i l = record {
  plain : (j : ℕ) → j < l.i → is_plain (get_or l.bytes j 0) ≡ true;
  stored : l.out ≡ sets l.initial.out l.at (take l.i l.bytes);
}
