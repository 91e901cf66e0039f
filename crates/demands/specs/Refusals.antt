-- Where a run's first text is looked for (document 01, "Answers by number", last paragraph).
use Rattle.std.specs.Prelude.{ℕ, ◌≤◌, ◌<◌, ◌≡◌, List, ◌++◌, ◌⊎◌, length}
use Rattle.json_grammar.specs.Tree.{Tree}
use Rattle.json_grammar.specs.Grammar.{Text}
use Rattle.document.specs.Answer.{text_at_most}

abbrev pub NoText : List ℕ → Type 0
NoText s = (t : Tree) → Text t s → ⊥

abbrev pub NoBeginning : List ℕ → Type 0
NoBeginning run = (u v : List ℕ) → run ≡ u ++ v → NoText u

-- "If none ends in the first 32,768 bytes"
abbrev pub NoneEnds : List ℕ → Type 0
NoneEnds run = (u v : List ℕ) → run ≡ u ++ v → length u ≤ text_at_most → NoText u

-- "2 or 3 is given if met there": in the first 32,768 bytes, or at the length of a run that is no longer.
abbrev pub Met : List ℕ → ℕ → Type 0
Met run n = (length run ≤ text_at_most) ⊎ (n < text_at_most)
