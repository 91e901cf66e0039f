-- An object at the beginning of some bytes, as a run has its first (document 01, "Answers by number", last paragraph).
use Rattle.std.specs.Prelude.{ℕ, List}
use Rattle.json_grammar.specs.Tree.{Place, Tree, object, Members}
use Rattle.json_grammar.specs.Grammar.{Blanks, Value}

-- Blanks aside, the bytes s begin with a spelling of the object t, and r is what is behind it.
pub data Leading : Tree → List ℕ → List ℕ → Type 0 where
  leading : {p : Place} {ms : Members} {s m r : List ℕ} → Blanks s m → Value (object p ms) m r → Leading (object p ms) s r
