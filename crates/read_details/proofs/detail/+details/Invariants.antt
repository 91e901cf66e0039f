-- Details and sequences, which call one another: the sequences still allowed fall from a sequence to those inside it, and each call between two of them
-- falls by one. The objects of a list are read in turn: each takes a record, and what is left of the list settles the whole (`Going`).
use mathlib.Core.Path.{◌≡◌}
use Prim.Native.Nat.{◌+◌, ◌*◌, ◌-◌, ◌≤◌}
use lib.ListN.{length}
use Rattle.json_grammar.specs.Tree.{Place, Elements, list}
use Rattle.document.specs.Schema.{an_object, a_sequence_object}
use Rattle.document.specs.Visit.{State, values_of, each}
use Rattle.document.specs.At.{At}
use Rattle.document.specs.Told.{Tells}
use Rattle.read_dosages.specs.Kept.{Ready}
use Rattle.read_details.specs.Rows.{ObjectsIn}
use Rattle.read_dosages.proofs.Listing as L
use Rattle.read_details.proofs.detail.+details.Given as goal

abbrev pub decreases-open_sequence : goal.decreases-open_sequence
decreases-open_sequence l = 7 * l.left + 3

abbrev pub decreases-posology_sequence : goal.decreases-posology_sequence
decreases-posology_sequence l = 7 * l.left + 6

abbrev pub decreases-read_detail : goal.decreases-read_detail
decreases-read_detail l = 7 * l.left + 5

abbrev pub decreases-read_objects : goal.decreases-read_objects
decreases-read_objects l = 7 * l.left + 8

abbrev pub decreases-read_sequence : goal.decreases-read_sequence
decreases-read_sequence l = 7 * l.inside + 9

abbrev pub decreases-read_sequence_object : goal.decreases-read_sequence_object
decreases-read_sequence_object l = 7 * l.left + 7

abbrev pub decreases-visit_detail : goal.decreases-visit_detail
decreases-visit_detail l = 7 * l.left + 4

abbrev pub invariant-read_objects-loop-terms : goal.invariant-read_objects-loop-terms
invariant-read_objects-loop-terms l = Ready l.terms l.words l.used
    × (l.initial.used.records ≤ l.used.records)
    × (length l.words ≡ length l.initial.words)
    × ((s : State) → Tells l.terms l.text l.initial.used s → (p : Place) (es : Elements) → At l.text l.at (list p es)
    → L.Going l.terms l.text (an_object (a_sequence_object l.left)) (ObjectsIn l.text) l.initial.used l.initial.words (each (an_object (a_sequence_object l.left)) (values_of es) s) l.used l.words l.e)

abbrev pub decreases-read_objects-loop-terms : goal.decreases-read_objects-loop-terms
decreases-read_objects-loop-terms l = 64 - l.used.records
