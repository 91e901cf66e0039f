-- On the way through one character of a string: what the functions that take it byte by byte promise each other.
use Rattle.std.specs.Prelude.{◌≡◌, true, List, [], ◌∷◌, ℕ, ◌+◌, ◌*◌, ◌≤◌, length, get_or, take, drop}
use Rattle.json_grammar.specs.Byte.{within, is_hex, digit}
use Rattle.json_grammar.specs.String.{chars, prepend, after, go_if, given, gather}
use Rattle.json_grammar.specs.Part.{string_stop}
use Rattle.json_grammar.specs.declared.string.InString.{InString}
use Rattle.json_grammar.specs.declared.string.InString.TheVariants.{Plain}

-- Behind n bytes, which gave these bytes, the string goes on in a state, with the number gathered so far.
pub record Reached (text : List ℕ) (at n : ℕ) (bytes : List ℕ) (s : InString) (v : ℕ) : Type 0 where
  pub inside : at + n ≤ length text
  pub same : string_stop Plain (drop at text) ≡ string_stop s (drop (at + n) text)
  pub decodes : (w : ℕ) → chars Plain w (drop at text) ≡ prepend bytes (chars s v (drop (at + n) text))

-- A state in which a byte stands for itself.
abbrev pub Bare : InString → Type 0
Bare s = (b : ℕ) → (given s 0 b ≡ b ∷ []) × (gather s 0 b ≡ 0)

-- The first byte of a character outside ASCII is passed, and a second from lo on and below hi takes the string on to the next state.
pub record Opened (text : List ℕ) (at lo hi : ℕ) (next : InString) : Type 0 where
  pub state : InString
  pub reached : Reached text at 1 (take 1 (drop at text)) state 0
  pub bare : Bare state
  pub second : (b : ℕ) → after state b ≡ go_if (within lo hi b) next

-- Four hexadecimal digits, and what they count.
pub record FourHex (text : List ℕ) (at : ℕ) : Type 0 where
  pub first : is_hex (get_or text at 0) ≡ true
  pub second : is_hex (get_or text (at + 1) 0) ≡ true
  pub third : is_hex (get_or text (at + 2) 0) ≡ true
  pub fourth : is_hex (get_or text (at + 3) 0) ≡ true

abbrev pub four_digits : List ℕ → ℕ → ℕ
four_digits text at =
    digit (get_or text at 0) * 0x1000 + digit (get_or text (at + 1) 0) * 0x100 + digit (get_or text (at + 2) 0) * 0x10
    + digit (get_or text (at + 3) 0)
