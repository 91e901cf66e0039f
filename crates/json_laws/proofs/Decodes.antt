-- Document 01, "Answers by number", row 2: "in UTF-8"; and the order line: "A `\u` escape of a lone surrogate is not text".
-- A string, whatever escapes it is spelled with, is decoded to UTF-8, and to one only.
use Prim.Native.Nat.{ℕ}
use mathlib.Core.Path.{◌≡◌, sym, ap, ◌∙◌}
use mathlib.Core.List.{List}
use Rattle.json_grammar.specs.Grammar.{Chars}
use Rattle.json_laws.specs.Utf8.{Utf8}
use Rattle.json_laws.proofs.Decoding.{decoded_chars}
use Rattle.json_laws.proofs.Encoded.{chars_utf8}

pub decoded_is_utf8 : {cs s r : List ℕ} → Chars cs s r → Utf8 cs
decoded_is_utf8 c = chars_utf8 c

pub one_decoding : {cs ds s r q : List ℕ} → Chars cs s r → Chars ds s q → (cs ≡ ds) × (r ≡ q)
one_decoding c d = let e = sym (decoded_chars c 0) ∙ decoded_chars d 0 in (ap (λ x. x.bytes) e, ap (λ x. x.rest) e)
