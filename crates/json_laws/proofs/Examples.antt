-- Some bytes, and what the definitions say of them.
use mathlib.Core.Path.{◌≡◌, refl}
use mathlib.Core.List.{[], ◌∷◌}
use Rattle.json_grammar.specs.Walk.{refused2, one_object}
use Rattle.json_move.specs.Read.{tree_of}
use Rattle.json_laws.specs.Depth.{depth}
use Rattle.json_laws.specs.Open.{open_in}

-- {"[":[ has two brackets open: the one in the string is none
open_two : open_in (123 ∷ 34 ∷ 91 ∷ 34 ∷ 58 ∷ 91 ∷ []) ≡ 2
unfolding open_in
open_two = refl

-- {"a":[]} is two deep
deep_two : depth (tree_of (123 ∷ 34 ∷ 97 ∷ 34 ∷ 58 ∷ 91 ∷ 93 ∷ 125 ∷ [])) ≡ 2
unfolding depth tree_of
deep_two = refl

-- {"\uDC00": is refused at the C, the first digit that no text goes on with
lone_half : one_object (123 ∷ 34 ∷ 92 ∷ 117 ∷ 68 ∷ 67 ∷ 48 ∷ 48 ∷ 34 ∷ 58 ∷ []) ≡ refused2 (67 ∷ 48 ∷ 48 ∷ 34 ∷ 58 ∷ [])
unfolding one_object
lone_half = refl

-- {"a":nul begins a text: it is refused at its length
cut_short : one_object (123 ∷ 34 ∷ 97 ∷ 34 ∷ 58 ∷ 110 ∷ 117 ∷ 108 ∷ []) ≡ refused2 []
unfolding one_object
cut_short = refl
