-- The names of the members left are looked for in the row.
use Prim.Native.Nat.{◌-◌}
use mathlib.Core.Path.{◌≡◌}
use lib.ListN.{length, drop}
use Rattle.json_move.specs.Read.{members_at}
use Rattle.document.specs.Lookup.{unknown}
use Rattle.document.specs.Visit.{entries_of}
use Rattle.read_names.specs.Names.{members_in, row_names}
use Rattle.read_names.proofs.unknown.first_unknown.Given as goal

abbrev pub invariant-loop : goal.invariant-loop
invariant-loop l =
    unknown (row_names l.known) (entries_of (members_at (length l.text - l.counter) (drop l.q l.text)))
    ≡ unknown (row_names l.known) (entries_of (members_in l.text (drop l.at l.text)))
