-- Moving about a text that was walked: from a place to the next, each as what is left there. What was walked is not looked at for faults again.
use Rattle.std.specs.Prelude.{ℕ, zero, suc, Bool, true, ◌||◌, drop, eqb}
use mathlib.Core.List.{[], ◌∷◌, tail}
use Rattle.json_grammar.specs.Rows.{else, below, look, choose}
use Rattle.json_grammar.specs.Byte.{is_numeric, blanked}
use Rattle.json_grammar.specs.Tree.{Place}
use Rattle.json_move.specs.declared.Kind.{Kind}
use Rattle.json_move.specs.declared.Kind.TheVariants.{Object, Array, Text, Number, True, False, Null}

-- The first byte, and 0 behind the text.
abbrev pub first_byte : Place → ℕ
first_byte [] = 0
first_byte (b ∷ s) = b

-- What a value is, by its first byte: { [ " t f n, and a number's.
unfoldable pub kind_of : Place → Kind
unfolding look
kind_of s =
    look (first_byte s)
    (below 34 Number (below 35 Text (below 91 Number (below 92 Array (below 102 Number (below 103 False
    (below 110 Number (below 111 Null (below 116 Number (below 117 True (below 123 Number (below 124 Object (else Number)))))))))))))

-- Behind the closing quote of a string, from a place inside it. A byte behind a backslash does not close it.
unfoldable mutual
  pub behind_string : Place → Place
  behind_string [] = []
  behind_string (b ∷ s) = choose (eqb b 34) (λ _. s) λ _. choose (eqb b 92) (λ _. behind_escape s) λ _. behind_string s

  pub behind_escape : Place → Place
  behind_escape [] = []
  behind_escape (b ∷ s) = behind_string s

unfoldable pub opens : ℕ → Bool
opens b = eqb b 91 || eqb b 123

unfoldable pub closes : ℕ → Bool
closes b = eqb b 93 || eqb b 125

-- Behind the bracket that closes a list or an object, from a place inside it: so many more are open. Brackets in strings are none.
unfoldable mutual
  unfolding opens closes

  pub behind_bracket : Place → ℕ → Place
  behind_bracket [] n = []
  behind_bracket (b ∷ s) n =
      choose (eqb b 34) (λ _. in_quotes s n) λ _.
      choose (opens b) (λ _. behind_bracket s (suc n)) λ _.
      choose (closes b) (λ _. elim n [ zero ↦ s | suc m ↦ behind_bracket s m ]) λ _.
      behind_bracket s n

  pub in_quotes : Place → ℕ → Place
  in_quotes [] n = []
  in_quotes (b ∷ s) n = choose (eqb b 34) (λ _. behind_bracket s n) λ _. choose (eqb b 92) (λ _. escaped s n) λ _. in_quotes s n

  pub escaped : Place → ℕ → Place
  escaped [] n = []
  escaped (b ∷ s) n = in_quotes s n

unfoldable pub behind_number : Place → Place
unfolding is_numeric
behind_number [] = []
behind_number (b ∷ s) = choose (is_numeric b) (λ _. behind_number s) λ _. b ∷ s

abbrev pub behind_kind : Kind → Place → Place
behind_kind Object s = behind_bracket (tail s) 0
behind_kind Array s = behind_bracket (tail s) 0
behind_kind Text s = behind_string (tail s)
behind_kind Number s = behind_number s
behind_kind True s = drop 4 s
behind_kind False s = drop 5 s
behind_kind Null s = drop 4 s

-- Behind the value that begins here.
unfoldable pub behind_value : Place → Place
unfolding kind_of behind_bracket behind_string behind_number
behind_value s = behind_kind (kind_of s) s

-- The first element or the first name's quote of a list or an object that begins here; or its closing bracket.
unfoldable pub first_in : Place → Place
unfolding blanked
first_in s = blanked (tail s)

abbrev pub over_comma : Place → Place
unfolding blanked
over_comma s = choose (eqb (first_byte s) 44) (λ _. blanked (tail s)) λ _. s

-- The element or the name's quote behind a value; or the closing bracket.
unfoldable pub next_after : Place → Place
unfolding behind_value blanked over_comma
next_after s = over_comma (blanked (behind_value s))

-- The value behind the colon, from a place behind the member's name.
abbrev pub behind_colon : Place → Place
unfolding blanked
behind_colon s = blanked (tail (blanked s))

-- The value of the member whose name's quote stands here: behind the name and the colon.
unfoldable pub value_of : Place → Place
unfolding behind_string blanked
value_of s = behind_colon (behind_string (tail s))

-- No element and no member begins here.
unfoldable pub at_end : Place → Bool
unfolding closes
at_end [] = true
at_end (b ∷ s) = closes b
