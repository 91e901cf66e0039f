-- The brackets that are open, by their bits.
use Rattle.std.specs.Prelude.{ℕ, zero, suc, ◌/◌, ◌%◌, List, [], ◌∷◌, cond, eqb}
use Rattle.json_grammar.specs.Walk.{Frame, a_list, an_object}
use Rattle.json_walk.specs.declared.brackets.Bracket.{Bracket}
use Rattle.json_walk.specs.declared.brackets.Bracket.TheVariants.{Square, Curly}

abbrev pub frame_of : Bracket → Frame
frame_of Square = a_list
frame_of Curly = an_object

-- the byte that closes it
abbrev pub closer_of : Bracket → ℕ
closer_of Square = 93
closer_of Curly = 125

-- A bit for each open bracket, 1 for a brace, the innermost lowest.
abbrev pub kind : ℕ → Frame
kind bit = cond (eqb bit 0) a_list an_object

unfoldable pub frames : ℕ → ℕ → List Frame
frames zero kinds = []
frames (suc depth) kinds = kind (kinds % 2) ∷ frames depth (kinds / 2)
