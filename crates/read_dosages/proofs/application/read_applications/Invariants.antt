-- `read_dosages::application::read_applications` meets its contract: each turn of the loop reads one element, and what is left settles the whole list.
-- Each application takes a record, so the records left fall.
use Prim.Native.Nat.{◌≤◌, ◌-◌}
use mathlib.Core.Path.{◌≡◌}
use lib.ListN.{length}
use Rattle.json_grammar.specs.Tree.{Place, Elements, list}
use Rattle.document.specs.Schema.{an_object}
use Rattle.document.specs.Visit.{State, each, values_of}
use Rattle.document.specs.At.{At}
use Rattle.document.specs.Told.{Tells}
use Rattle.read_dosages.specs.Visiting.{an_application, ApplicationsRows}
use Rattle.read_dosages.specs.Kept.{Ready}
use Rattle.read_dosages.proofs.Listing.{Going}
use Rattle.read_dosages.proofs.application.read_applications.Given as goal

abbrev pub invariant-loop-terms : goal.invariant-loop-terms
invariant-loop-terms s = Ready s.terms s.words s.used × (s.initial.used.records ≤ s.used.records) × (length s.words ≡ length s.initial.words)
    × ((l : State) → Tells s.terms s.text s.initial.used l → (p : Place) (es : Elements) → At s.text s.at (list p es) → Going s.terms s.text (an_object (an_application s.timed)) (ApplicationsRows s.timed) s.initial.used s.initial.words (each (an_object (an_application s.timed)) (values_of es) l) s.used s.words s.e)

abbrev pub decreases-loop-terms : goal.decreases-loop-terms
decreases-loop-terms l = 64 - l.used.records
