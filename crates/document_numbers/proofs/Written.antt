-- The bytes of a number in a walked text.
use Prim.Native.Nat.{ℕ, ◌-◌, ◌<◌, ◌≤◌}
use mathlib.Core.Path.{◌≡◌, refl, sym, ap, ◌∙◌}
use mathlib.Core.List.{List, [], ◌∷◌, ◌++◌}
use mathlib.Core.Bool.{Bool, true, false}
use lib.ListN.{length, take, drop, length-append, length-drop, drop_of_length-le}
use lib.Seq.{take_at}
use native.Mathlib.Omega.{arith}
use Rattle.json_grammar.specs.Rows.{choose}
use Rattle.json_grammar.specs.Byte.{is_numeric}
use Rattle.json_grammar.specs.Tree.{Place, Moves}
use Rattle.json_move.specs.Moving.{behind_number}
use Rattle.json_move.specs.Read.{written}

-- What is left: the number, and what stands behind it.
written_behind : (s : Place) → written s ++ behind_number s ≡ s
unfolding written behind_number
written_behind [] = refl
written_behind (b ∷ s) = go (is_numeric b) (written_behind s)
  where
    go : (t : Bool) → written s ++ behind_number s ≡ s → choose t (λ _. b ∷ written s) (λ _. []) ++ choose t (λ _. behind_number s) (λ _. b ∷ s) ≡ b ∷ s
    go true e = ap (λ r. b ∷ r) e
    go false e = refl

-- So the bytes to where the code moves are the number.
pub written_is : {text : List ℕ} {at end : ℕ} → Moves behind_number text at end → at < length text → take (end - at) (drop at text) ≡ written (drop at text)
written_is {text} {at} {end} m h =
    let s = drop at text in
    let all : written s ++ drop end text ≡ s = ap (λ r. written s ++ r) m.lands ∙ written_behind s in
    let n : length (written s) ≡ end - at = omega (arith, simp (length-append, length-drop) at (ap length all), m.ahead, m.inside (omega arith)) in
    ap (take (end - at)) (sym all) ∙ take_at (written s) (drop end text) (end - at) n

-- Behind the text there are none.
pub written_none : (text : List ℕ) (at : ℕ) → length text ≤ at → [] ≡ written (drop at text)
unfolding written
written_none text at h = rw (drop_of_length-le text h)
