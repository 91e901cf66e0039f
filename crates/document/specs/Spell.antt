-- Document 01, "The plain text": no blanks, and the escapes. A tree's plain spelling, in front of what follows it.
use Rattle.std.specs.Prelude.{List, [], ◌∷◌, ◌++◌, Bool, true, false, ℕ, ◌+◌, ◌/◌, ◌%◌}
use Rattle.json_grammar.specs.Rows.{else, below, look}
use Rattle.json_grammar.specs.Tree.{Tree, object, list, string, number, bool, null, Members, no_member, member, Elements, no_element, element}
use Rattle.document.specs.Bytes.{bytes}

-- A hexadecimal digit, its letter lower-case.
abbrev pub hex_digit : ℕ → ℕ
hex_digit n = look n (below 10 (48 + n) (else (87 + n)))

-- \u00 and two digits
abbrev pub control : ℕ → List ℕ → List ℕ
control b k = 92 ∷ 117 ∷ 48 ∷ 48 ∷ hex_digit (b / 16) ∷ hex_digit (b % 16) ∷ k

-- \b 8, \t 9, \n 10, \f 12, \r 13, \" 34, \\ 92
unfoldable pub escaped : ℕ → List ℕ → List ℕ
unfolding look
escaped b k =
    look b (below 8 (control b k) (below 9 (92 ∷ 98 ∷ k) (below 10 (92 ∷ 116 ∷ k) (below 11 (92 ∷ 110 ∷ k) (below 12 (control b k)
    (below 13 (92 ∷ 102 ∷ k) (below 14 (92 ∷ 114 ∷ k) (below 32 (control b k) (below 34 (b ∷ k) (below 35 (92 ∷ 34 ∷ k)
    (below 92 (b ∷ k) (below 93 (92 ∷ 92 ∷ k) (else (b ∷ k))))))))))))))

unfoldable pub quoted : List ℕ → List ℕ → List ℕ
unfolding escaped
quoted [] k = 34 ∷ k
quoted (b ∷ bs) k = escaped b (quoted bs k)

abbrev pub boolean : Bool → List ℕ → List ℕ
boolean true k = bytes "true" ++ k
boolean false k = bytes "false" ++ k

unfoldable mutual
  unfolding quoted

  pub spell : Tree → List ℕ → List ℕ
  spell (object p ms) k = 123 ∷ first_member ms k
  spell (list p es) k = 91 ∷ first_element es k
  spell (string p cs) k = 34 ∷ quoted cs k
  spell (number p raw) k = raw ++ k
  spell (bool p b) k = boolean b k
  spell (null p) k = bytes "null" ++ k

  pub first_member : Members → List ℕ → List ℕ
  first_member no_member k = 125 ∷ k
  first_member (member q n t ms) k = 34 ∷ quoted n (58 ∷ spell t (more_members ms k))

  pub more_members : Members → List ℕ → List ℕ
  more_members no_member k = 125 ∷ k
  more_members (member q n t ms) k = 44 ∷ 34 ∷ quoted n (58 ∷ spell t (more_members ms k))

  pub first_element : Elements → List ℕ → List ℕ
  first_element no_element k = 93 ∷ k
  first_element (element t es) k = spell t (more_elements es k)

  pub more_elements : Elements → List ℕ → List ℕ
  more_elements no_element k = 93 ∷ k
  more_elements (element t es) k = 44 ∷ spell t (more_elements es k)
