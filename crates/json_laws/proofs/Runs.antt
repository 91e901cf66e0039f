-- Document 01, "Answers by number", last paragraph: "a run takes the shortest beginning, leading blanks included, that is such a text; what follows isn't looked at".
use Prim.Native.Nat.{ℕ, ◌≤◌}
use mathlib.Core.Path.{◌≡◌}
use mathlib.Core.List.{List, ◌++◌}
use lib.ListN.{length}
use Rattle.json_grammar.specs.Tree.{Tree}
use Rattle.json_grammar.specs.Grammar.{Text}
use Rattle.json_grammar.specs.Walk.{end, first_object}
use Rattle.json_laws.proofs.Shortest.{taken_text, none_shorter}

-- What the walk takes off a run is a text, and what a text leaves of a run is no longer than what the walk leaves.
pub run_takes_text : {run r : List ℕ} → first_object run ≡ end r → (w : List ℕ) × (run ≡ w ++ r) × (t : Tree) × Text t w
run_takes_text e = taken_text e

pub run_takes_shortest : {t : Tree} (u v r : List ℕ) → first_object (u ++ v) ≡ end r → Text t u → length v ≤ length r
run_takes_shortest u v r e h = none_shorter u v r e h
