-- The members passed are settled, their names are in the table, and the others stand at q.
use mathlib.Core.Path.{◌≡◌}
use Rattle.json_grammar.specs.Tree.{Place, Members, object}
use Rattle.document.specs.At.{At}
use Rattle.read_names.proofs.Tabling.{Tabling}
use Rattle.read_names.proofs.settling.settle_many.Given as goal

abbrev pub invariant-loop : goal.invariant-loop
invariant-loop l =
    (l.object.members ≡ l.counter)
    × ((p : Place) (ms : Members) → At l.text l.at (object p ms) → Tabling l.seed l.text l.at ms l.object.slots l.table l.object.members l.q)
