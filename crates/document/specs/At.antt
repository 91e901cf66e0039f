-- What stands at a place of a walked text, by the grammar.
use Rattle.std.specs.Prelude.{ℕ, ◌<◌, List, length, drop, Option, None, Some}
use Rattle.json_grammar.specs.Tree.{Tree}
use Rattle.json_grammar.specs.Grammar.{Value as Spelled}
use Rattle.document.specs.Lookup.{Found, nothing, one}
use Rattle.document.specs.Visit.{Value, value_of}

pub record At (text : List ℕ) (at : ℕ) (t : Tree) : Type 0 where
  pub rest : List ℕ
  pub spelled : Spelled t (drop at text) rest
  pub inside : at < length text

-- A slot of the code: none for a name that does not stand, else the place of its value.
pub data Slot (text : List ℕ) : Option ℕ → Found Value → Type 0 where
  empty : Slot text None nothing
  filled : {v : ℕ} {t : Tree} → At text v t → Slot text (Some v) (one (value_of t))
