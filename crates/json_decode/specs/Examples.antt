-- Strings of a text and what they decode to, by computation.
use Rattle.std.specs.Prelude.{ℕ, ◌≡◌, refl, List, [], ◌∷◌, ◌++◌}
use Prim.Native.Char.{code}
use Prim.Native.String.{String, [] as empty, ◌∷◌ as first}
use Rattle.json_grammar.specs.Byte.{utf8}
use Rattle.json_move.specs.Read.{decoded}

-- A text's bytes in UTF-8.
abbrev pub text : String → List ℕ
unfolding utf8
text empty = []
text (first c s) = utf8 (code c) ++ text s

examples :
    (decoded (text "\"\\u0074\":1") ≡ text "t")
    × (decoded (text "\"\\uD83D\\ude00\"") ≡ decoded (text "\"😀\""))
    × (decoded (text "\"😀\"") ≡ 0xF0 ∷ 0x9F ∷ 0x98 ∷ 0x80 ∷ [])
    × (decoded (text "\"\\u0000\"") ≡ 0 ∷ [])
    × (decoded (text "\"\\/\"") ≡ text "/")
    × (decoded (text "\"a\\\\\\\"\\n\\u00E9€z\"b") ≡ text "a\\\"\né€z")
unfolding decoded text
examples = (refl, refl, refl, refl, refl, refl)
