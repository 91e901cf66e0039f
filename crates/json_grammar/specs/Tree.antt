-- A JSON value with the places of its parts.
use Rattle.std.specs.Prelude.{ℕ, ◌-◌, ◌≤◌, ◌≡◌, List, Bool, length, drop}

-- A place of a text is what is left of its bytes from there on. It becomes a number, counted from the text's start, in an answer alone.
abbrev pub Place : Type 0
Place = List ℕ

abbrev pub place_in : List ℕ → Place → ℕ
place_in text place = length text - length place

-- From the place `at` the code moves on to `r`, as f says of what is left there; behind the text it stays.
pub record Moves (f : Place → Place) (text : List ℕ) (at r : ℕ) : Type 0 where
  pub lands : drop r text ≡ f (drop at text)
  pub ahead : at ≤ r
  pub inside : at ≤ length text → r ≤ length text
  pub outside : length text ≤ at → r ≡ at

-- A value, with the place of its first byte. A string is decoded; a number is kept as it is written.
mutual
  pub data Tree : Type 0 where
    object : Place → Members → Tree
    list : Place → Elements → Tree
    string : Place → List ℕ → Tree
    number : Place → List ℕ → Tree
    bool : Place → Bool → Tree
    null : Place → Tree

  -- A member: the place of its name's quote, the name decoded, the value, and the members behind it.
  pub data Members : Type 0 where
    no_member : Members
    member : Place → List ℕ → Tree → Members → Members

  pub data Elements : Type 0 where
    no_element : Elements
    element : Tree → Elements → Elements
