-- Document 01, "Answers by number", row 3: "the 21st `{` or `[` open at once, both counted together", at "that byte";
-- and the order line: "the whole text for 2 and 3, the lower place first, 2 before 3 at one byte".
use Prim.Native.Nat.{ℕ}
use mathlib.Core.Path.{◌≡◌}
use mathlib.Core.List.{List}
use mathlib.Core.Logic.{◌↔◌}
use Rattle.json_grammar.specs.Tree.{Place, place_in}
use Rattle.json_grammar.specs.Walk.{refused2, refused3, first_object, one_object}
use Rattle.json_laws.specs.Open.{TwentyFirst, Shallow}
use Rattle.json_laws.proofs.ExactlyInRuns.{run_answer_3}
use Rattle.json_laws.proofs.Faults.{one_fault, first_fault, fault_shallow}
use Rattle.json_laws.proofs.Exactly.{answer_3}
use Rattle.json_laws.proofs.Deeps.{first_deep, one_is_deep}

-- A text that is refused with 3 has its 21st open bracket there, and none before; and with that byte it still begins a text, so that 2 is met neither before nor there.
pub place_of_3 : (text : List ℕ) (p : Place) → one_object text ≡ refused3 p → TwentyFirst text (place_in text p)
place_of_3 text p e = first_deep text p (one_is_deep text p e)

pub place_of_3_in_run : (run : List ℕ) (p : Place) → first_object run ≡ refused3 p → TwentyFirst run (place_in run p)
place_of_3_in_run run p e = first_deep run p e

-- And a text that has its 21st open bracket at n is refused so, and in no other case.
pub exactly_3 : (text : List ℕ) (n : ℕ) → ((p : Place) × (one_object text ≡ refused3 p) × (place_in text p ≡ n)) ↔ TwentyFirst text n
exactly_3 text n = (λ h. rw h.2 at (place_of_3 text h.0 h.1), λ t. answer_3 text n t)

pub exactly_3_in_run : (run : List ℕ) (n : ℕ) → ((p : Place) × (first_object run ≡ refused3 p) × (place_in run p ≡ n)) ↔ TwentyFirst run n
exactly_3_in_run run n = (λ h. rw h.2 at (first_deep run h.0 h.1), λ t. run_answer_3 run n t)

-- A text that is refused with 2 has no 21st open bracket before that place.
pub no_3_before_2 : (text : List ℕ) (p : Place) → one_object text ≡ refused2 p → Shallow text (place_in text p)
no_3_before_2 text p e = fault_shallow text p (one_fault text p e)

pub no_3_before_2_in_run : (run : List ℕ) (p : Place) → first_object run ≡ refused2 p → Shallow run (place_in run p)
no_3_before_2_in_run run p e = fault_shallow run p (first_fault run p e)
