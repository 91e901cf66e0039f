-- Strings of a walked text by their decoded bytes (`decoded` of Read.antt), given out as the escapes are undone.
use Rattle.std.specs.Prelude.{ℕ, ◌+◌, ◌-◌, ◌<◌, ◌≤◌, ◌≡◌, List, [], ◌∷◌, ◌++◌, length, drop}
use Rattle.std.proofs.Math.Seq.{slice}
use Rattle.json_grammar.specs.Byte.{utf8}
use Rattle.json_grammar.specs.String.{chars, point}
use Rattle.json_grammar.specs.declared.string.InString.TheVariants.{Plain}
use Rattle.json_scan.specs.declared.escape.Escape.{Escape}
use Rattle.json_scan.specs.declared.escape.Escape.TheVariants.{Letter, Digits}
use Rattle.json_decode.specs.declared.Spot.{Spot}
use Rattle.json_decode.specs.declared.NextBytes.{NextBytes}

-- The decoded bytes of a string from a place on where a character or the closing quote may stand.
abbrev pub plain_from : List ℕ → ℕ → List ℕ
plain_from text at = (chars Plain 0 (drop at text)).bytes

-- The decoded bytes of a string from a spot on.
unfoldable pub left : List ℕ → Spot → List ℕ
unfolding chars
left text s = (chars s.state s.v (drop s.at text)).bytes

-- A spot where a character or the closing quote may stand.
abbrev pub spot_at : ℕ → Spot
spot_at at = record { at = at; state = Plain; v = 0 }

abbrev pub behind_run : Spot → ℕ → Spot
behind_run s at = record { at = at; state = s.state; v = s.v }

-- From a spot up to r the string's bytes are those of the text: the rest is to be decoded from there.
pub record Run (text : List ℕ) (s : Spot) (r : ℕ) : Type 0 where
  pub ahead : s.at ≤ r
  pub inside : r - s.at ≤ length text - s.at
  pub bytes : left text s ≡ slice s.at r text ++ left text (behind_run s r)

-- What an escape stands for.
abbrev pub meant_by : Escape → List ℕ
meant_by (Letter m) = m ∷ []
meant_by (Digits v n) = utf8 (point v)

-- What the byte at a spot adds to the string, and the spot behind it.
pub record Steps (text : List ℕ) (s : Spot) (r : NextBytes) : Type 0 where
  pub bytes : left text s ≡ r.out ++ left text r.spot
  pub on : r.spot.at ≡ s.at + 1
  pub inside : s.at < length text

-- The next bytes of a string from a spot on, and the spot behind them.
pub record GivesBytes (text : List ℕ) (s : Spot) (r : NextBytes) : Type 0 where
  pub bytes : left text s ≡ r.out ++ left text r.spot
  pub some : 0 < length r.out
