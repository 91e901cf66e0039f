-- The strings of the records are laid, one after another.
use Prim.Native.Nat.{◌-◌}
use mathlib.Core.Path.{◌≡◌}
use Rattle.read_table.specs.Built.{laid_rows}
use Rattle.read_table.proofs.lay_records.Given as goal

abbrev pub invariant-loop-i : goal.invariant-loop-i
invariant-loop-i l = l.strings ≡ laid_rows l.text l.i l.words l.initial.strings
