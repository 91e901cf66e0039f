-- What begins a text (document 01, "Answers by number", row 2). The limits of depth and of length are no part of it.
use Rattle.std.specs.Prelude.{ℕ, suc, ◌≤◌, ◌≡◌, List, ◌++◌, ◌⊎◌, length, take}
use Rattle.json_grammar.specs.Tree.{Tree}
use Rattle.json_grammar.specs.Grammar.{Text}

-- Some bytes behind w make a text of it.
abbrev pub Begins : List ℕ → Type 0
Begins w = (c : List ℕ) × (t : Tree) × Text t (w ++ c)

-- "the first byte with which the bytes so far begin no such text, or the length"
pub record FirstFault (text : List ℕ) (n : ℕ) : Type 0 where
  pub inside : n ≤ length text
  pub before : Begins (take n text)
  pub fault : (n ≡ length text) ⊎ (Begins (take (suc n) text) → ⊥)
