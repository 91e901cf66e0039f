-- Document 01, "Answers by number", row 2: "not one JSON object in UTF-8",
-- at "the first byte with which the bytes so far begin no such text, or the length".
use Prim.Native.Nat.{ℕ}
use mathlib.Core.Path.{◌≡◌, sym, ap, ◌∙◌}
use mathlib.Core.List.{List, ◌++◌}
use mathlib.Core.Logic.{◌↔◌}
use Rattle.json_grammar.specs.Tree.{Place, Tree, place_in}
use Rattle.json_grammar.specs.Grammar.{Text}
use Rattle.json_grammar.specs.Walk.{refused2, first_object, one_object}
use Rattle.json_laws.specs.Begins.{FirstFault}
use Rattle.json_laws.specs.Open.{Shallow}
use Rattle.json_laws.proofs.Exactly.{answer_2}
use Rattle.json_laws.proofs.ExactlyInRuns.{run_answer_2}
use Rattle.json_laws.proofs.Faults.{one_fault, first_fault, fault_number, fault_shallow}
use Rattle.json_laws.proofs.Objects.{one_not_2}
use Rattle.json_laws.proofs.Shortest.{no_beginning}

-- A text that is refused with 2 is refused at that place.
pub place_of_2 : (text : List ℕ) (p : Place) → one_object text ≡ refused2 p → FirstFault text (place_in text p)
place_of_2 text p e = fault_number text p (one_fault text p e)

-- So is the first text of a run.
pub place_of_2_in_run : (run : List ℕ) (p : Place) → first_object run ≡ refused2 p → FirstFault run (place_in run p)
place_of_2_in_run run p e = fault_number run p (first_fault run p e)

-- A text is refused with 2 at n exactly when it is none, its first fault is at n, and no 21st bracket is open before.
pub exactly_2 : (text : List ℕ) (n : ℕ) → ((p : Place) × (one_object text ≡ refused2 p) × (place_in text p ≡ n)) ↔ (FirstFault text n × Shallow text n × ((t : Tree) → Text t text → ⊥))
exactly_2 text n = (
  λ h. (rw h.2 at (place_of_2 text h.0 h.1), rw h.2 at (fault_shallow text h.0 (one_fault text h.0 h.1)), λ t g. one_not_2 h.0 g h.1),
  λ h. answer_2 text n h.0 h.1 h.2,
)

-- So the first text of a run, when no beginning of the run is a text.
pub exactly_2_in_run : (run : List ℕ) (n : ℕ)
    → ((p : Place) × (first_object run ≡ refused2 p) × (place_in run p ≡ n)) ↔ (FirstFault run n × Shallow run n × ((t : Tree) (u v : List ℕ) → run ≡ u ++ v → Text t u → ⊥))
exactly_2_in_run run n = (
  λ h. (rw h.2 at (place_of_2_in_run run h.0 h.1), rw h.2 at (fault_shallow run h.0 (first_fault run h.0 h.1)), λ t u v d g. no_beginning u v h.0 g (ap first_object (sym d) ∙ h.1)),
  λ h. run_answer_2 run n h.0 h.1 h.2,
)
