-- How many elements a list has.
use Rattle.std.specs.Prelude.{ℕ, suc, List, length}
use Rattle.json_grammar.specs.Tree.{Place, Elements, no_element, element}
use Rattle.json_move.specs.Moving.{first_in}
use Rattle.json_move.specs.Read.{elements_at}

abbrev pub count : Elements → ℕ
count no_element = 0
count (element t ts) = suc (count ts)

-- The elements of the list whose bracket stands here.
unfoldable pub elements_in : List ℕ → Place → Elements
unfolding elements_at first_in
elements_in text s = elements_at (length text) (first_in s)
