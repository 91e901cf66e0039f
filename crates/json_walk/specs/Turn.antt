-- How the code's walk stands to the walk of Walk.antt: its open brackets are a number's bits, and it takes a string, a number or a word at a time.
use Rattle.std.specs.Prelude.{ℕ, suc, ◌<◌, ◌≤◌, ◌≡◌, List, [], ◌∷◌, Bool, false, length, drop, eqb, Option, Some, None, Result, Ok, Err}
use Rattle.json_grammar.specs.Walk.{Frame, Next, onto, walk, Walked, end, refused2, refused3}
use Rattle.json_grammar.specs.Walk as W
use Rattle.json_grammar.specs.Rows.{choose}
use Rattle.json_grammar.specs.Part.{Stop, torn, number_stop, word_stop}
use Rattle.json_grammar.specs.declared.number.InNumber.TheVariants.{Start}
use Rattle.json_walk.specs.Frames.{frames}
use Rattle.json_walk.specs.declared.Mode.{Mode}
use Rattle.json_walk.specs.declared.Mode.TheVariants.{Value, FirstElement, FirstName, Name, Colon, Behind}
use Rattle.json_walk.specs.declared.brackets.Bracket.{Bracket}
use Rattle.json_walk.specs.declared.brackets.Bracket.TheVariants.{Square, Curly}
use Rattle.json_walk.specs.declared.brackets.Brackets.{Brackets}
use Rattle.json_walk.specs.declared.Walk.{Walk}
use Rattle.json_walk.specs.declared.Step.{Step}
use Rattle.json_walk.specs.declared.Step.TheVariants.{Go, End}
use Rattle.json_walk.specs.declared.Fault.{Fault}
use Rattle.json_walk.specs.declared.Fault.TheVariants.{Broken, Deep}

abbrev pub mode_of : Mode → W.Mode
mode_of Value = W.value
mode_of FirstElement = W.first_element
mode_of FirstName = W.first_name
mode_of Name = W.name
mode_of Colon = W.colon
mode_of Behind = W.behind

abbrev pub open_in : Brackets → List Frame
open_in b = frames b.depth b.kinds

-- The mode behind a string that begins in a mode.
abbrev pub behind_quoted : Mode → Option Mode
behind_quoted Value = Some Behind
behind_quoted FirstElement = Some Behind
behind_quoted FirstName = Some Colon
behind_quoted Name = Some Colon
behind_quoted Colon = None
behind_quoted Behind = None

-- What a comma leads to, by the innermost bracket.
abbrev pub after_comma : Bracket → Mode
after_comma Square = Value
after_comma Curly = Name

-- ] or } right behind the bracket that it closes
abbrev pub closes_empty : Mode → ℕ → Bool
closes_empty Value b = false
closes_empty FirstElement b = eqb b 93
closes_empty FirstName b = eqb b 125
closes_empty Name b = false
closes_empty Colon b = false
closes_empty Behind b = false

-- What the walk comes to when the byte at `at` does `next`.
abbrev pub steps : List ℕ → ℕ → Next → Walked
steps text at next = onto next (drop at text) (λ m k. walk m k (drop (suc at) text)) (λ _. end (drop (suc at) text))

-- What it comes to from where the code stands.
abbrev pub walk_from : List ℕ → Walk → Walked
walk_from text here = walk (mode_of here.mode) (open_in here.brackets) (drop here.at text)

-- true, false, null or a number, from its first byte on
unfoldable pub plain_stop : List ℕ → Stop
unfolding number_stop word_stop
plain_stop [] = torn []
plain_stop (b ∷ s) =
    choose (eqb b 116) (λ _. word_stop (114 ∷ 117 ∷ 101 ∷ []) s) λ _.
    choose (eqb b 102) (λ _. word_stop (97 ∷ 108 ∷ 115 ∷ 101 ∷ []) s) λ _.
    choose (eqb b 110) (λ _. word_stop (117 ∷ 108 ∷ 108 ∷ []) s) λ _.
    number_stop Start (b ∷ s)

-- Broken is refusal 2 and Deep refusal 3.
abbrev pub Refused : List ℕ → Walked → Fault → Type 0
Refused text w (Broken p) = (w ≡ refused2 (drop p text)) × (p ≤ length text)
Refused text w (Deep p) = (w ≡ refused3 (drop p text)) × (p ≤ length text)

-- The code's answer tells where the walk ended: the place behind the object, or why it is refused.
abbrev pub Tells : List ℕ → Walked → Result ℕ Fault → Type 0
Tells text w (Ok e) = (w ≡ end (drop e text)) × (e ≤ length text)
Tells text w (Err fault) = Refused text w fault

-- A turn of the code, from `at` on, comes to w.
abbrev pub Turned : List ℕ → ℕ → Walked → Result Step Fault → Type 0
Turned text at w (Ok (Go next)) = (w ≡ walk_from text next) × (at < next.at) × (next.at ≤ length text)
Turned text at w (Ok (End e)) = (w ≡ end (drop e text)) × (e ≤ length text)
Turned text at w (Err fault) = Refused text w fault
