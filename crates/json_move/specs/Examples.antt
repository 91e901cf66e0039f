-- Texts with what the walk says of them and the trees that they have, by computation (document 01, rows 2 and 3).
use Rattle.std.specs.Prelude.{ℕ, ◌≡◌, refl, List, [], ◌∷◌, ◌++◌, true, drop}
use Prim.Native.Char.{code}
use Prim.Native.String.{String, [] as none, ◌∷◌ as first}
use Rattle.json_grammar.specs.Byte.{utf8, is_blank, is_numeric}
use Rattle.json_grammar.specs.String.{lead}
use Rattle.json_grammar.specs.Number.{onward}
use Rattle.json_grammar.specs.Tree.{Place, place_in, object, list, string, number, bool, no_member, member, no_element, element}
use Rattle.json_grammar.specs.Walk.{Walked, end, refused2, refused3, first_object, one_object, walk}
use Rattle.json_grammar.specs.Grammar.{Text, text, here, blank, an_object, name, char, ascii, close, a_number, next, stop, brace}
use Rattle.json_move.specs.Read.{tree_of}
use Rattle.json_move.specs.Count.{count, elements_in}

-- The bytes of a text in UTF-8.
abbrev pub bytes : String → List ℕ
unfolding utf8
bytes none = []
bytes (first c s) = utf8 (code c) ++ bytes s

-- 2 or 3 and the refusal's place, or 0 and the place behind the object.
abbrev pub told : List ℕ → Walked → ℕ × ℕ
told s (end p) = (0, place_in s p)
told s (refused2 p) = (2, place_in s p)
told s (refused3 p) = (3, place_in s p)

abbrev pub alone : List ℕ → ℕ × ℕ
unfolding one_object
alone s = told s (one_object s)

-- A text of which only the first object is looked at.
abbrev pub run : List ℕ → ℕ × ℕ
unfolding walk
run s = told s (first_object s)

-- A member's name by its escape, and a surrogate pair beside its character in UTF-8.
abbrev pub escaped : List ℕ
unfolding utf8
escaped = bytes "{\"t\":2, \"\\u0074\":[true,\"\\uD83D\\ude00😀\"]}"

abbrev pub at : ℕ → Place
unfolding utf8
at n = drop n escaped

abbrev pub small : List ℕ
unfolding utf8
small = bytes "{\"a\":1}\n"

pub examples :
    -- an object, and blanks around it
    (alone (bytes "{\"a\":[1, 2.5e-3],\"b\":null}") ≡ (0, 26))
    × (alone (bytes " {}\n") ≡ (0, 3))
    -- the byte that cannot go on, not the one that began the sequence
    × (alone (bytes "{\"" ++ (0xC2 ∷ 34 ∷ [])) ≡ (2, 3))
    × (alone (bytes "{\"" ++ (0xED ∷ 0xA0 ∷ 0x80 ∷ bytes "\":1}")) ≡ (2, 3))
    -- lone surrogates: a second half by itself, and a first half with none behind it
    × (alone (bytes "{\"\\uDC00\":1}") ≡ (2, 5))
    × (alone (bytes "{\"\\uD800x\":1}") ≡ (2, 8))
    × (alone (bytes "{\"\\uD800\\u0041\":1}") ≡ (2, 10))
    -- a text that is cut still begins a text: the length
    × (alone (bytes "{\"a\":nul") ≡ (2, 8))
    -- a byte order mark is no blank
    × (alone (bytes "\u{feff}{}") ≡ (2, 0))
    -- behind the object stand blanks alone; in a run nothing there is looked at
    × (alone (bytes "{}{}") ≡ (2, 2))
    × (run (bytes "{}{}") ≡ (0, 2))
    -- the 21st open bracket
    × (alone (bytes "{\"a\":[[[[[[[[[[[[[[[[[[[[") ≡ (3, 24))
    -- a leading zero, and a raw byte below 0x20 in a string
    × (alone (bytes "{\"a\":01}") ≡ (2, 6))
    × (alone (bytes "{\"a\u{1}\":1}") ≡ (2, 3))
    -- trees
    × (tree_of (bytes "{}") ≡ object (bytes "{}") no_member)
    × (tree_of escaped
    ≡ object (at 0) (member (at 1) (bytes "t") (number (at 5) (bytes "2"))
    (member (at 8) (bytes "t") (list (at 17) (element (bool (at 18) true) (element (string (at 23) (bytes "😀😀")) no_element))) no_member)))
    × (count (elements_in escaped (at 17)) ≡ 2)
    -- the grammar spells the tree that is found
    × Text (tree_of small) small
unfolding utf8 one_object walk tree_of elements_in lead onward is_numeric is_blank
examples = (
  refl,
  refl,
  refl,
  refl,
  refl,
  refl,
  refl,
  refl,
  refl,
  refl,
  refl,
  refl,
  refl,
  refl,
  refl,
  refl,
  refl,
  text here (an_object here (name (char (ascii refl) close refl) here here (a_number (next refl (stop refl refl))) here brace)) (blank refl here),
)
