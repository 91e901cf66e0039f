-- The walk: one byte at a time, with the brackets that are open. It settles refusals 2 and 3 and where an object ends
-- (document 01, "Answers by number": rows 2 and 3, and the order line).
use Rattle.std.specs.Prelude.{ℕ, List, [], ◌∷◌, length, eqb, ltb, Option, Some, None}
use Rattle.json_grammar.specs.Rows.{choose}
use Rattle.json_grammar.specs.Byte.{is_blank, blanked}
use Rattle.json_grammar.specs.Tree.{Place}
use Rattle.json_grammar.specs.String.{after}
use Rattle.json_grammar.specs.Number.{onward, may_end}
use Rattle.json_grammar.specs.declared.string.InString.{InString}
use Rattle.json_grammar.specs.declared.string.InString.TheVariants.{Plain}
use Rattle.json_grammar.specs.declared.string.CharStep.{CharStep}
use Rattle.json_grammar.specs.declared.string.CharStep.TheVariants.{Goes, Closes, Refuses}
use Rattle.json_grammar.specs.declared.number.InNumber.{InNumber}
use Rattle.json_grammar.specs.declared.number.InNumber.TheVariants.{Start}

-- An open bracket.
pub data Frame : Type 0 where
  a_list an_object : Frame

-- What may stand next, blanks aside. The brackets around it are the open ones.
pub data Mode : Type 0 where
  top : Mode  -- the text's own brace
  value : Mode
  first_element : Mode  -- or the list's closing bracket
  first_name : Mode  -- or the object's closing brace
  name : Mode
  colon : Mode
  behind : Mode  -- behind a value: a comma or the closing bracket
  in_name : InString → Mode
  in_string : InString → Mode
  in_number : InNumber → Mode
  in_word : List ℕ → Mode  -- the letters of true, false or null that are left

pub data Next : Type 0 where
  wrong : Next  -- no text goes on so
  deep : Next  -- the 21st open bracket
  ended : Next  -- the text's own brace is closed
  go : Mode → List Frame → Next

-- At most twenty brackets are open at once.
abbrev pub opened : Frame → Mode → List Frame → Next
opened f m k = choose (ltb (length k) 20) (λ _. go m (f ∷ k)) λ _. deep

abbrev pub shut : List Frame → Next
shut [] = wrong
shut (f ∷ []) = ended
shut (f ∷ g ∷ k) = go behind (g ∷ k)

abbrev pub digits : Option InNumber → List Frame → Next
digits (Some n) k = go (in_number n) k
digits None k = wrong

-- The first byte of a value: " { [ t f n, or a number's.
abbrev pub begin : ℕ → List Frame → Next
begin b k =
    choose (eqb b 34) (λ _. go (in_string Plain) k) λ _.
    choose (eqb b 123) (λ _. opened an_object first_name k) λ _.
    choose (eqb b 91) (λ _. opened a_list first_element k) λ _.
    choose (eqb b 116) (λ _. go (in_word (114 ∷ 117 ∷ 101 ∷ [])) k) λ _.
    choose (eqb b 102) (λ _. go (in_word (97 ∷ 108 ∷ 115 ∷ 101 ∷ [])) k) λ _.
    choose (eqb b 110) (λ _. go (in_word (117 ∷ 108 ∷ 108 ∷ [])) k) λ _.
    digits (onward Start b) k

-- Behind a value: , or the bracket that closes.
abbrev pub step_behind : ℕ → List Frame → Next
step_behind b [] = choose (is_blank b) (λ _. go behind []) λ _. wrong
step_behind b (a_list ∷ k) =
    choose (is_blank b) (λ _. go behind (a_list ∷ k)) λ _.
    choose (eqb b 44) (λ _. go value (a_list ∷ k)) λ _.
    choose (eqb b 93) (λ _. shut (a_list ∷ k)) λ _. wrong
step_behind b (an_object ∷ k) =
    choose (is_blank b) (λ _. go behind (an_object ∷ k)) λ _.
    choose (eqb b 44) (λ _. go name (an_object ∷ k)) λ _.
    choose (eqb b 125) (λ _. shut (an_object ∷ k)) λ _. wrong

abbrev pub step_chars : (InString → Mode) → Mode → CharStep → List Frame → Next
step_chars inside closed (Goes c) k = go (inside c) k
step_chars inside closed Closes k = go closed k
step_chars inside closed Refuses k = wrong

-- A number ends at a byte that does not go on with it; that byte stands behind the value.
abbrev pub step_digits : InNumber → Option InNumber → ℕ → List Frame → Next
step_digits n (Some m) b k = go (in_number m) k
step_digits n None b k = choose (may_end n) (λ _. step_behind b k) λ _. wrong

abbrev pub step_word : List ℕ → ℕ → List Frame → Next
step_word [] b k = wrong
step_word (w ∷ []) b k = choose (eqb b w) (λ _. go behind k) λ _. wrong
step_word (w ∷ v ∷ ws) b k = choose (eqb b w) (λ _. go (in_word (v ∷ ws)) k) λ _. wrong

abbrev pub blank_or : ℕ → Mode → List Frame → (Unit {0} → Next) → Next
blank_or b m k other = choose (is_blank b) (λ _. go m k) other

unfoldable pub step : Mode → ℕ → List Frame → Next
unfolding is_blank after onward
step top b k = blank_or b top k λ _. choose (eqb b 123) (λ _. opened an_object first_name k) λ _. wrong
step value b k = blank_or b value k λ _. begin b k
step first_element b k = blank_or b first_element k λ _. choose (eqb b 93) (λ _. shut k) λ _. begin b k
step first_name b k = blank_or b first_name k λ _. choose (eqb b 34) (λ _. go (in_name Plain) k) λ _. choose (eqb b 125) (λ _. shut k) λ _. wrong
step name b k = blank_or b name k λ _. choose (eqb b 34) (λ _. go (in_name Plain) k) λ _. wrong
step colon b k = blank_or b colon k λ _. choose (eqb b 58) (λ _. go value k) λ _. wrong
step behind b k = step_behind b k
step (in_name c) b k = step_chars in_name colon (after c b) k
step (in_string c) b k = step_chars in_string behind (after c b) k
step (in_number n) b k = step_digits n (onward n b) b k
step (in_word w) b k = step_word w b k

-- Where the walk of one object ends.
pub data Walked : Type 0 where
  end : Place → Walked  -- behind its closing brace
  refused2 : Place → Walked
  refused3 : Place → Walked

abbrev pub onto : Next → Place → (Mode → List Frame → Walked) → (Unit {0} → Walked) → Walked
onto wrong p f e = refused2 p
onto deep p f e = refused3 p
onto ended p f e = e tt
onto (go m k) p f e = f m k

unfoldable pub walk : Mode → List Frame → List ℕ → Walked
unfolding step
walk m k [] = refused2 []
walk m k (b ∷ s) = onto (step m b k) (b ∷ s) (λ n l. walk n l s) (λ _. end s)

-- The first object of some bytes: what follows it is not looked at.
abbrev pub first_object : List ℕ → Walked
first_object s = walk top [] s

abbrev pub only_blanks : List ℕ → Walked → Walked
only_blanks [] w = w
only_blanks (b ∷ s) w = refused2 (b ∷ s)

abbrev pub alone : Walked → Walked
alone (end r) = only_blanks (blanked r) (end r)
alone (refused2 p) = refused2 p
alone (refused3 p) = refused3 p

-- One object that is all of the text, blanks aside.
unfoldable pub one_object : List ℕ → Walked
unfolding walk blanked
one_object text = alone (first_object text)
