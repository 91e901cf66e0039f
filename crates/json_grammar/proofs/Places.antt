-- A place of a text is one number, so a contract that tells a place allows one answer.
use Prim.Native.Nat.{ℕ, ◌≤◌}
use mathlib.Core.Path.{◌≡◌, sym, ap, ◌∙◌}
use mathlib.Core.List.{List}
use lib.ListN.{length, drop, length-drop}
use native.Mathlib.Decide.{dec_le}
use Rattle.std.specs.Prelude.{Result, Ok, Err}
use native.Mathlib.Omega.{arith}
use Rattle.json_grammar.specs.Tree.{Place, place_in, Moves}
use Rattle.json_grammar.specs.Part.{Stop, Stops}
use Rattle.json_grammar.specs.declared.part.Torn.{Torn}

pub place_one : (text : List ℕ) (a b : ℕ) → a ≤ length text → b ≤ length text → drop a text ≡ drop b text → a ≡ b
place_one text a b h l e = omega (arith, length-drop a text, length-drop b text, ap length e)

-- The place of what is left from p on is p.
pub place_of : (text : List ℕ) (p : ℕ) → p ≤ length text → place_in text (drop p text) ≡ p
place_of text p h = omega (arith, length-drop p text)

-- blanks_end, and what moves about a text
pub moves_one : {f : Place → Place} {text : List ℕ} {at r q : ℕ} → Moves f text at r → Moves f text at q → r ≡ q
moves_one {text = text} {at} {r} {q} h k = by (dec_le at (length text))
  where
    by : Dec (at ≤ length text) → r ≡ q
    by (yes l) = place_one text r q (h.inside l) (k.inside l) (h.lands ∙ sym k.lands)
    by (no n) = h.outside (omega arith) ∙ sym (k.outside (omega arith))

-- string_end, number_end and word_end
pub stops_one : (text : List ℕ) (at : ℕ) (w : Stop) (r q : Result ℕ Torn) → Stops text at w r → Stops text at w q → r ≡ q
stops_one text at w (Ok e) (Ok f) h k = ap Ok (place_one text e f h.2 k.2 (cc))
stops_one text at w (Ok e) (Err p) h k = cc
stops_one text at w (Err p) (Ok e) h k = cc
stops_one text at w (Err p) (Err q) h k = ap (λ (x : ℕ). Err (record { 0 = x })) (place_one text p.0 q.0 h.1 k.1 (cc))
