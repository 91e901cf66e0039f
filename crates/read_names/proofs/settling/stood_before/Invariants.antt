-- The names that are left are compared, one after the other.
use Prim.Native.Nat.{◌-◌}
use mathlib.Core.Path.{◌≡◌}
use lib.ListN.{drop}
use Rattle.json_move.specs.Moving.{first_in}
use Rattle.json_move.specs.Read.{decoded}
use Rattle.document.specs.Lookup.{has}
use Rattle.read_names.specs.Names.{names_from}
use Rattle.read_names.proofs.settling.stood_before.Given as goal

abbrev pub invariant-loop : goal.invariant-loop
invariant-loop l =
    has (decoded (drop l.quote l.text)) (names_from (l.members - l.counter) (drop l.q l.text))
    ≡ has (decoded (drop l.quote l.text)) (names_from l.members (first_in (drop l.at l.text)))
