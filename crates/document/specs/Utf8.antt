-- The strings that a JSON text can hold, decoded: UTF-8 (RFC 3629, section 4), control bytes and U+0000 too.
use Rattle.std.specs.Prelude.{List, [], ◌∷◌, Bool, true, false, ◌&&◌, ℕ}
use Rattle.std.proofs.Math.Option.{Option, none, some}
use Rattle.json_grammar.specs.Rows.{Rows, else, below, look}
use Rattle.json_grammar.specs.Byte.{within}

-- From lo on, and below hi.
pub record Within : Type 0 where
  pub lo : ℕ
  pub hi : ℕ

abbrev pub from : ℕ → ℕ → Within
from lo hi = record { lo = lo; hi = hi }

abbrev pub tail : Within
tail = from 0x80 0xC0

-- The bytes that must follow a first byte; none where it is no first byte.
abbrev pub follow_rows : Rows (Option (List Within))
follow_rows =
    below 0x80 (some [])
    (below 0xC2 none
    (below 0xE0 (some (tail ∷ []))
    (below 0xE1 (some (from 0xA0 0xC0 ∷ tail ∷ []))
    (below 0xED (some (tail ∷ tail ∷ []))
    (below 0xEE (some (from 0x80 0xA0 ∷ tail ∷ []))
    (below 0xF0 (some (tail ∷ tail ∷ []))
    (below 0xF1 (some (from 0x90 0xC0 ∷ tail ∷ tail ∷ []))
    (below 0xF4 (some (tail ∷ tail ∷ tail ∷ []))
    (below 0xF5 (some (from 0x80 0x90 ∷ tail ∷ tail ∷ []))
    (else none))))))))))

abbrev pub go_on : Option (List Within) → (List Within → Bool) → Bool
go_on none f = false
go_on (some ws) f = f ws

unfoldable pub well_formed : List ℕ → List Within → Bool
unfolding look within
well_formed [] [] = true
well_formed [] (w ∷ ws) = false
well_formed (b ∷ s) [] = go_on (look b follow_rows) (λ ws. well_formed s ws)
well_formed (b ∷ s) (w ∷ ws) = within w.lo w.hi b && well_formed s ws

unfoldable pub is_utf8 : List ℕ → Bool
unfolding well_formed
is_utf8 s = well_formed s []
