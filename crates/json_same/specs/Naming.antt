-- Names of a walked text, compared by their decoded bytes (`decoded` and `same` of Read.antt).
use Rattle.std.specs.Prelude.{ℕ, ◌+◌, ◌-◌, ◌≤◌, ◌≡◌, List, [], ◌∷◌, length}
use Rattle.json_move.specs.Read.{same}
use Rattle.json_decode.specs.Characters.{plain_from}
use Rattle.json_same.specs.declared.First.{First}
use Rattle.json_same.specs.declared.First.TheVariants.{Ascii, End, Coded}

-- Behind n bytes from `p` and from `q` on, both strings are still to be compared.
pub record Paired (text : List ℕ) (p q n : ℕ) : Type 0 where
  pub inside : n ≤ length text - p
  pub beside : n ≤ length text - q
  pub answer : same (plain_from text (p + n)) (plain_from text (q + n)) ≡ same (plain_from text p) (plain_from text q)

-- The decoded bytes from a place on, as its first byte shows them.
abbrev pub Begins : List ℕ → ℕ → First → Type 0
Begins text at (Ascii b) = plain_from text at ≡ b ∷ plain_from text (at + 1)
Begins text at End = plain_from text at ≡ []
Begins text at Coded = Unit {0}
