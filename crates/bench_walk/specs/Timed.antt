-- The walk's answer as one number, for a C program that times it.
use Rattle.std.specs.Prelude.{ℕ, ◌+◌, ◌*◌, ◌%◌, List}
use Rattle.json_grammar.specs.Tree.{place_in}
use Rattle.json_grammar.specs.Walk.{Walked, end, refused2, refused3}

-- The place in the high bits; in the low two 0 for an end, or the refusal's number.
abbrev pub coded : ℕ → ℕ → ℕ
coded place kind = place % 4294967296 * 4 + kind

abbrev pub timed : List ℕ → Walked → ℕ
timed text (end r) = coded (place_in text r) 0
timed text (refused2 p) = coded (place_in text p) 2
timed text (refused3 p) = coded (place_in text p) 3
