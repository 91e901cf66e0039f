-- No name stood twice; the members passed are settled, and the others stand at q.
use mathlib.Core.Path.{◌≡◌}
use Rattle.json_grammar.specs.Tree.{Place, Members, object}
use Rattle.document.specs.At.{At}
use Rattle.read_names.proofs.Members.{Settling}
use Rattle.read_names.proofs.settling.settle.Given as goal

abbrev pub invariant-loop : goal.invariant-loop
invariant-loop l =
    (l.object.members ≡ l.counter)
    × ((p : Place) (ms : Members) → At l.text l.at (object p ms) → Settling l.text l.at ms l.object.slots l.object.members l.q)
