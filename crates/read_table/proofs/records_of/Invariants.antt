-- The records that the words tell, and unused ones behind them.
use Prim.Native.Nat.{◌-◌}
use mathlib.Core.Path.{◌≡◌}
use mathlib.Core.List.{◌++◌}
use lib.ListN.{replicate}
use Rattle.document.specs.Table.{no_record}
use Rattle.read_table.specs.Built.{records_of}
use Rattle.read_table.proofs.records_of.Given as goal

abbrev pub invariant-loop-i : goal.invariant-loop-i
invariant-loop-i l = l.records ≡ records_of l.i l.words ++ replicate (64 - l.i) no_record
