-- One character of a string as it stands in a text, whole: what it is decoded to, and that the string goes on behind it.
use Rattle.std.specs.Prelude.{◌≡◌, List, [], ◌∷◌, ℕ, ◌+◌, ◌<◌, ◌≤◌, length, take, drop}
use Rattle.json_grammar.specs.Byte.{utf8}
use Rattle.json_grammar.specs.String.{chars, prepend, point}
use Rattle.json_grammar.specs.Part.{string_stop}
use Rattle.json_grammar.specs.declared.string.InString.TheVariants.{Plain}
use Rattle.json_scan.specs.declared.escape.Escape.{Escape}
use Rattle.json_scan.specs.declared.escape.Escape.TheVariants as E

-- The string goes on behind n bytes, one at least.
pub record Passes (text : List ℕ) (at n : ℕ) : Type 0 where
  pub forward : 0 < n
  pub inside : at + n ≤ length text
  pub same : string_stop Plain (drop at text) ≡ string_stop Plain (drop (at + n) text)

pub record Char (text : List ℕ) (at n : ℕ) (bytes : List ℕ) : Type 0 where
  pub passes : Passes text at n
  pub decodes : (v : ℕ) → chars Plain v (drop at text) ≡ prepend bytes (chars Plain 0 (drop (at + n) text))

-- A character of n bytes that stand for themselves.
abbrev pub Itself : List ℕ → ℕ → ℕ → Type 0
Itself text at n = Char text at n (take n (drop at text))

-- A letter behind a backslash, or the digits of one unit or of a pair.
abbrev pub Escapes : List ℕ → ℕ → Escape → Type 0
Escapes text at (E.Letter m) = Char text at 2 (m ∷ [])
Escapes text at (E.Digits v n) = Char text at n (utf8 (point v))

abbrev pub width_of : Escape → ℕ
width_of (E.Letter m) = 2
width_of (E.Digits v n) = n
