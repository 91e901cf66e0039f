-- The bytes of a text without the blanks between its tokens.
use Rattle.std.specs.Prelude.{ℕ, List, [], ◌∷◌, Bool, true, false, not, ◌&&◌, ◌||◌, eqb}
use Rattle.json_grammar.specs.Rows.{choose}
use Rattle.json_grammar.specs.Byte.{is_blank, is_numeric, within}
use Rattle.json_move.specs.Moving.{first_byte}

-- Outside strings, in a string, and behind a backslash in it.
unfoldable mutual
  unfolding is_blank

  pub bare : List ℕ → List ℕ
  bare [] = []
  bare (b ∷ s) = choose (is_blank b) (λ _. bare s) λ _. choose (eqb b 34) (λ _. b ∷ bare_quoted s) λ _. b ∷ bare s

  pub bare_quoted : List ℕ → List ℕ
  bare_quoted [] = []
  bare_quoted (b ∷ s) = choose (eqb b 34) (λ _. b ∷ bare s) λ _. choose (eqb b 92) (λ _. b ∷ bare_escaped s) λ _. b ∷ bare_quoted s

  pub bare_escaped : List ℕ → List ℕ
  bare_escaped [] = []
  bare_escaped (b ∷ s) = b ∷ bare_quoted s

-- A byte of a number or of a word: side by side, two of them are of one token.
unfoldable pub in_word : ℕ → Bool
unfolding is_numeric within
in_word b = is_numeric b || within 97 123 b

abbrev pub may_part : ℕ → ℕ → Bool
may_part a b = not (in_word a && in_word b)

-- Whether blanks outside strings part no number and no word: none stands between two such bytes. The last byte before that is no blank is p.
unfoldable mutual
  unfolding is_blank bare in_word

  pub whole_after : ℕ → List ℕ → Bool
  whole_after p [] = true
  whole_after p (b ∷ s) =
      choose (is_blank b) (λ _. may_part p (first_byte (bare s)) && whole_after p s) λ _.
      choose (eqb b 34) (λ _. whole_quoted s) λ _. whole_after b s

  pub whole_quoted : List ℕ → Bool
  whole_quoted [] = true
  whole_quoted (b ∷ s) = choose (eqb b 34) (λ _. whole_after b s) λ _. choose (eqb b 92) (λ _. whole_escaped s) λ _. whole_quoted s

  pub whole_escaped : List ℕ → Bool
  whole_escaped [] = true
  whole_escaped (b ∷ s) = whole_quoted s

unfoldable pub whole : List ℕ → Bool
unfolding whole_after
whole s = whole_after 0 s

-- Whether a place is between two tokens, with u before it and v behind it: outside strings, and not between two bytes of a number or of a word.
-- The byte before u is l.
unfoldable mutual
  unfolding in_word

  pub between_after : ℕ → List ℕ → List ℕ → Bool
  between_after l [] v = may_part l (first_byte v)
  between_after l (b ∷ u) v = choose (eqb b 34) (λ _. between_quoted u v) λ _. between_after b u v

  pub between_quoted : List ℕ → List ℕ → Bool
  between_quoted [] v = false
  between_quoted (b ∷ u) v = choose (eqb b 34) (λ _. between_after b u v) λ _. choose (eqb b 92) (λ _. between_escaped u v) λ _. between_quoted u v

  pub between_escaped : List ℕ → List ℕ → Bool
  between_escaped [] v = false
  between_escaped (b ∷ u) v = between_quoted u v

unfoldable pub between : List ℕ → List ℕ → Bool
unfolding between_after
between u v = between_after 0 u v
